use Rattle.std.proofs.Common.{option_map, sym, ap, ◌∙◌}
use Rattle.deno_package_json.specs.Cache.{shared}
use Rattle.deno_package_json.proofs.KeptEntries.{insert-kept}
use Rattle.deno_package_json.proofs.load_path.load_kept.Goals as goal

pub returns-in-Some-clause-keeps : goal.returns-in-Some-clause-keeps
returns-in-Some-clause-keeps g c = insert-kept _ c.args.path.now (shared c.in-Some.found)
    (sym c.in_ok-found.ensures ∙ ap (option_map shared) c.in-Some.is)
