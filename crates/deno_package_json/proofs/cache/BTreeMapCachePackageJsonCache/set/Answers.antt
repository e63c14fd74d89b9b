use Rattle.std.proofs.Common.{ap, ◌∙◌}
use Rattle.std.specs.FinMap as finite
use Rattle.deno_package_json.specs.Cache.{kept_by, shared}
use Rattle.deno_package_json.proofs.KeptEntries.{kept_by-insert}
use Rattle.deno_package_json.proofs.cache.BTreeMapCachePackageJsonCache.set.Goals as goal

pub returns-clause-put : goal.returns-clause-put
returns-clause-put c =
    kept_by-insert c.args.self.now.packages c.insert.new.self shared c.in_ok-path.path c.args.package_json
    c.in_ok-insert.ensures.updates
    ∙ ap (λ k. finite.insert (kept_by c.args.self.now.packages.entries shared) k c.args.package_json.value)
    c.in_ok-path.ensures
