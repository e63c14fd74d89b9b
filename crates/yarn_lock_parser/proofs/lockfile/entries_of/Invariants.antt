use Rattle.std.proofs.Common.{◌≡◌, length}
use denote.Text.{Utf8}
use denote.Shadow.{shadow}
use Rattle.yarn_lock_parser.specs.Front.{IsRest}
use Rattle.yarn_lock_parser.specs.Cut.{entry_texts}
use Rattle.yarn_lock_parser.specs.Lock.{entries_from, place_in}
use Rattle.yarn_lock_parser.proofs.Locks.{entries_at}
use Rattle.yarn_lock_parser.proofs.lockfile.entries_of.Given as goal

-- what is found and what is left are the whole
abbrev pub invariant-loop-one : goal.invariant-loop-one
invariant-loop-one l = record {
  text : shadow (Utf8 l.rest);
  rest : IsRest l.content l.rest;
  whole : entries_at l.found.items (place_in l.content l.rest) l.rest ≡ entries_from (place_in l.content l.text)
      (entry_texts l.text);
}

abbrev pub decreases-loop-one : goal.decreases-loop-one
decreases-loop-one l = length l.rest
