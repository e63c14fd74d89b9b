use Rattle.std.proofs.Common.{◌∷◌, length}
use Rattle.sugar_path.specs.Path.{up}
use Rattle.tree_core.specs.Asks.{Leads}
use Rattle.swc_loader.specs.Walk.{walk}
use Rattle.swc_loader.proofs.walk.walk.Given as goal

-- what is left is the walk from the folder
abbrev pub invariant-up : goal.invariant-up
invariant-up g l =
    Leads (g.R.Asker.asking l.fn.tree) (g.R.Asker.asking l.tree)
    (walk l.context.conventions.now l.context.target l.target (l.from ∷ up l.from))
    (walk l.context.conventions.now l.context.target l.target (l.folder ∷ up l.folder))

abbrev pub decreases-up : goal.decreases-up
decreases-up g l = length l.folder
