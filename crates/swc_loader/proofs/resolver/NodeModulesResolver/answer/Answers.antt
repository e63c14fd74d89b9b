use Rattle.std.proofs.Common.{ap, Some, None}
use Rattle.tree_core.proofs.Asking.{asks_then, asks_done, asks_fails, asks_starved}
use Rattle.swc_loader.specs.declared.resolution.Resolution.{Resolution}
use Rattle.swc_loader.specs.Spelling.{answered}
use Rattle.swc_loader.proofs.resolver.NodeModulesResolver.answer.Goals as goal

pub returns-in_err-filename : goal.returns-in_err-filename
unfolding answered
returns-in_err-filename g c = asks_fails _ _ c.from_residual.ensures.1 c.in_err-filename.ensures

pub returns-in_err-file : goal.returns-in_err-file
unfolding answered
returns-in_err-file g c = asks_then _ c.in_ok-filename.ensures (asks_starved _ c.from_residual-in_err-file.ensures.1)

pub returns : goal.returns
unfolding answered
returns g c =
    asks_then _ c.in_ok-filename.ensures
    (asks_done (ap (λ text. let r : Resolution =
    record {
      filename = c.in_ok-filename.filename;
      slug = None;
      found =
          Some (record { file = text; via = c.args.via });
    } in r) c.in_ok-file.ensures.text))
