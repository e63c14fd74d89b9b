use Rattle.std.proofs.Common.{◌≡◌, true, sym, ◌∙◌, rules}
use Rattle.sugar_path.specs.PathTypes.{path_bytes}
use Rattle.sugar_path.specs.Relative.{needs_folder}
use Rattle.sugar_path.proofs.BorrowedWays.{borrowed-alone}
use Rattle.sugar_path.proofs.lexical.PathSugarPath.try_relative.Goals as goal

pub returns-in-Unknown-clause-without_memory : goal.returns-in-Unknown-clause-without_memory
returns-in-Unknown-clause-without_memory c = λ h.
    let needed : needs_folder (path_bytes c.args.base) (path_bytes c.args.self) ≡ true = search rules in
    sym (borrowed-alone (path_bytes c.args.base) (path_bytes c.args.self) h) ∙ needed
