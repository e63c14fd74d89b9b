use Rattle.std.proofs.Common.{refl}
use Rattle.pnp_core.proofs.Owners.{at-exclusions}
use Rattle.pnp_core.proofs.registry.is_excluded_from_fallback.Goals as goal

pub returns-in-None : goal.returns-in-None
returns-in-None c = rw (← c.manifest.view_is, at-exclusions, ← c.in-None.ensures.value) refl

pub returns-in-Some : goal.returns-in-Some
returns-in-Some c = rw (← c.manifest.view_is, at-exclusions, ← c.in-Some.ensures.value) c.contains.ensures
