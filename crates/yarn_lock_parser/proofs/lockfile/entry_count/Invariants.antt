use Rattle.std.proofs.Common.{◌≡◌, ◌≤◌, ◌+◌, length}
use denote.Text.{Utf8}
use denote.Shadow.{shadow}
use Rattle.yarn_lock_parser.specs.Cut.{entry_texts}
use Rattle.yarn_lock_parser.proofs.lockfile.entry_count.Given as goal

-- what is counted and what is left are the whole; each entry that is counted took a byte or more
abbrev pub invariant-loop-behind : goal.invariant-loop-behind
invariant-loop-behind l = record {
  text : shadow (Utf8 l.rest);
  whole : l.count + length (entry_texts l.rest) ≡ length (entry_texts l.text);
  bound : l.count + length l.rest ≤ length l.text;
}

abbrev pub decreases-loop-behind : goal.decreases-loop-behind
decreases-loop-behind l = length l.rest
