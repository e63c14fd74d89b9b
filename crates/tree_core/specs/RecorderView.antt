-- What contracts see of a recorder.
use Rattle.std.specs.Prelude.{List}
use Rattle.tree_core.specs.declared.question.Question.{Question}
use Rattle.tree_core.specs.declared.question.Reply.{Reply}
use Rattle.tree_core.specs.declared.recorder.Recorder.{Recorder}
use Rattle.tree_core.specs.declared.tree.Tree.{Ghosts}
use Rattle.tree_core.specs.Asks.{Asking}

-- the reference that it holds, the tree behind it, and the trail
abbrev pub asking_of : {T : Type 0} {g : Ghosts T} → Recorder T g → Asking
asking_of {g = g} r =
    record { name = r.tree.ghost_name; tree = g.state r.tree.now; trail = r.trail }

-- the tree that it has borrowed, as it is now
abbrev pub tree_of : {T : Type 0} {g : Ghosts T} → Recorder T g → T
tree_of r = r.tree.now

-- what was asked so far
abbrev pub trail_of : {T : Type 0} {g : Ghosts T} → Recorder T g → List (Question × Reply)
trail_of r = r.trail
