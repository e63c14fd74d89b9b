use Rattle.std.proofs.Common.{◌≡◌, List, ◌++◌}
use Rattle.std.specs.Slice.Iter.{iter_rest}
use Rattle.tree_core.specs.declared.question.Question.{Question}
use Rattle.tree_core.specs.declared.question.Reply.{Reply}
use Rattle.session_core.specs.Index.{StayNoted, AreNoted}
use Rattle.session_core.proofs.index.note_paths.Given as goal

-- the questions before what is left are noted
abbrev pub invariant-loop-step : goal.invariant-loop-step
invariant-loop-step l =
    StayNoted l.initial.noted.keys l.noted.keys
    × ((front : List (Question × Reply)) × (l.trail ≡ front ++ iter_rest l.step-iterator)
    × AreNoted l.noted.keys l.number front)
