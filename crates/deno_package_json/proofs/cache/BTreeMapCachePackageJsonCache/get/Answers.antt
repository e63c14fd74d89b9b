use Rattle.std.proofs.Common.{Some, option_map, sym, ap, ◌∙◌}
use Rattle.deno_package_json.specs.Cache.{shared}
use Rattle.deno_package_json.proofs.KeptEntries.{get-kept_by}
use Rattle.deno_package_json.proofs.cache.BTreeMapCachePackageJsonCache.get.Goals as goal

pub returns-in_ok-clone-in-Some : goal.returns-in_ok-clone-in-Some
returns-in_ok-clone-in-Some c = ap Some c.in_ok-clone-in-Some.ensures.cases
    ∙ ap (option_map shared) c.in-Some.ensures.value
    ∙ sym (get-kept_by c.args.self.now.packages.entries shared c.args.path.now)

pub returns-in-None : goal.returns-in-None
returns-in-None c = ap (option_map shared) c.in-None.ensures.value
    ∙ sym (get-kept_by c.args.self.now.packages.entries shared c.args.path.now)
