use Rattle.std.proofs.Common.{◌≡◌, ◌++◌, drop, string_bytes}
use Rattle.trail_bundle.specs.BundleText.{request_lines}
use Rattle.trail_bundle.proofs.encode.write_requests.Given as goal

-- the lines so far stand in front of those of the requests that are left
abbrev pub invariant-loop-request : goal.invariant-loop-request
invariant-loop-request l =
    string_bytes l.fn.text ++ request_lines l.requests ≡ string_bytes l.text
    ++ request_lines (drop l.request-index l.requests)
