use Rattle.std.proofs.Common.{◌≡◌, ◌+◌, ◌++◌, length}
use Rattle.trail_bundle.specs.Bundle.{AreReplies}
use Rattle.trail_bundle.specs.BundleText.{reply_lines}
use Rattle.trail_bundle.specs.Steps.{steps_of}
use Rattle.trail_bundle.proofs.decode.read_replies.Given as goal

-- what has been read so far stood in front of what is left
abbrev pub invariant-loop : goal.invariant-loop
invariant-loop l =
    (l.fn.lines.rest.now ≡ reply_lines (steps_of l.replies.entries) ++ l.lines.rest.now)
    × AreReplies (steps_of l.replies.entries)
    × (length (steps_of l.replies.entries) ≡ l.counter)
    × (l.lines.number ≡ l.fn.lines.number + l.counter)
