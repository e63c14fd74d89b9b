use Rattle.std.proofs.Common.{◌≡◌, ◌≤◌, drop}
use Rattle.npm_req.specs.Number.{counted, largest_number}
use Rattle.npm_req.proofs.Components.{counted_behind}
use Rattle.npm_req.proofs.partial.counted.Given as goal

-- the digits that are left stand behind the value so far
abbrev pub invariant-loop-digit : goal.invariant-loop-digit
invariant-loop-digit l = record {
  small : l.value ≤ largest_number;
  same : counted_behind l.value (drop l.digit-index l.digits) ≡ counted l.digits;
}
