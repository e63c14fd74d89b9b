-- What contracts see of a resolver that keeps answers.
use Rattle.std.specs.Prelude.{ℕ}
use Rattle.resolver_core.specs.declared.cache.CachingResolver.{CachingResolver}
use Rattle.resolver_core.specs.Caching.{Kept}

abbrev pub kept_of : {R : Type 0} → CachingResolver R → Kept
kept_of r = r.kept.entries

abbrev pub capacity_of : {R : Type 0} → CachingResolver R → ℕ
capacity_of r = r.kept.cap

abbrev pub inner_of : {R : Type 0} → CachingResolver R → R
inner_of r = r.inner
