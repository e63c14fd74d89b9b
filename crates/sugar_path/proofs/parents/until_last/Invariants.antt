use Rattle.std.proofs.Common.{◌≡◌, ◌≤◌, length}
use Rattle.sugar_path.specs.Path.{parts}
use Rattle.sugar_path.specs.ParentEnd.{until_last}
use Rattle.sugar_path.proofs.parents.until_last.Given as goal

-- only silent parts were dropped
abbrev pub invariant-loop-slash : goal.invariant-loop-slash
invariant-loop-slash l = record {
  until : until_last (parts l.text) ≡ until_last (parts l.fn.path);
  shorter : length l.text ≤ length l.fn.path;
}

abbrev pub decreases-loop-slash : goal.decreases-loop-slash
decreases-loop-slash l = length l.text
