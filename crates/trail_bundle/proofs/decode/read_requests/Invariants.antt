use Rattle.std.proofs.Common.{◌≡◌, ◌+◌, ◌++◌, length}
use Rattle.trail_bundle.specs.BundleText.{request_lines}
use Rattle.trail_bundle.proofs.decode.read_requests.Given as goal

-- what has been read so far stood in front of what is left
abbrev pub invariant-loop : goal.invariant-loop
invariant-loop l =
    (l.fn.lines.rest.now ≡ request_lines l.requests.items ++ l.lines.rest.now)
    × (length l.requests.items ≡ l.counter)
    × (l.lines.number ≡ l.fn.lines.number + l.counter)
