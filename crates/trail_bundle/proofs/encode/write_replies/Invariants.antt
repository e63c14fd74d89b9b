use Rattle.std.proofs.Common.{◌≡◌, ◌++◌, string_bytes}
use Rattle.trail_bundle.specs.BundleText.{reply_lines}
use Rattle.trail_bundle.specs.Steps.{steps_of}
use Rattle.trail_bundle.proofs.encode.write_replies.Given as goal

-- the lines so far stand in front of those of the replies that are left
abbrev pub invariant-loop-key : goal.invariant-loop-key
invariant-loop-key l =
    string_bytes l.fn.text ++ reply_lines (steps_of l.replies.entries) ≡ string_bytes l.text
    ++ reply_lines (steps_of l.key-iterator)
