use Rattle.std.proofs.Common.{◌≡◌, ◌≤◌, ◌+◌, ◌-◌, ℕ, List, Some, length, vec_len}
use Rattle.cli_core.specs.declared.reading.TheConstants.{LONGEST, CHUNK}
use Rattle.cli_core.proofs.Turns.{Front}
use Rattle.cli_core.proofs.reading.read_all.Given as goal

-- what was read is the front
abbrev pub invariant-loop-buffer : goal.invariant-loop-buffer
invariant-loop-buffer g l = record {
  size : length l.buffer ≡ CHUNK;
  bounded : length l.all.items ≤ LONGEST + CHUNK;
  count : (g.S.Source.state l.source).faults ≡ (g.S.Source.state l.fn.source).faults;
  front : (bytes : List ℕ) → (g.S.Source.state l.fn.source).left ≡ Some bytes
      → Front bytes l.all.items (g.S.Source.state l.source).left;
}

-- each turn but the last takes a byte
abbrev pub decreases-loop-buffer : goal.decreases-loop-buffer
decreases-loop-buffer g l = LONGEST + 1 - vec_len l.all
