use Rattle.std.proofs.Common.{◌≡◌}
use Rattle.tree_core.specs.Places.{place_from}
use Rattle.tree_core.specs.QuestionKind.{question_on}
use Rattle.tree_core.proofs.trail.place_from.Given as goal

-- what is left has the first place
abbrev pub invariant-loop-i : goal.invariant-loop-i
invariant-loop-i l =
    place_from l.steps l.from (question_on l.kind l.path) ≡ place_from l.steps l.i (question_on l.kind l.path)
