use Rattle.std.proofs.Common.{◌≡◌, ◌≤◌, ◌-◌, length, take}
use Rattle.cli_core.specs.Streams.{Appends}
use Rattle.cli_core.proofs.writing.write_all.Given as goal

-- the front was written
abbrev pub invariant-loop-done : goal.invariant-loop-done
invariant-loop-done g l = record {
  within : l.done ≤ length l.text;
  count : (g.K.Sink.state l.sink).faults ≡ (g.K.Sink.state l.fn.sink).faults;
  front : Appends (take l.done l.text) (g.K.Sink.state l.fn.sink).written (g.K.Sink.state l.sink).written;
}

-- each turn but the last takes a byte
abbrev pub decreases-loop-done : goal.decreases-loop-done
decreases-loop-done g l = length l.text - l.done
