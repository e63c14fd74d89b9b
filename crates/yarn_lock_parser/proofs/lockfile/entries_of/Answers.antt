use Rattle.std.proofs.Common.{sym, ◌∙◌, rules}
use Rattle.yarn_lock_parser.specs.Lock.{place_in}
use Rattle.yarn_lock_parser.proofs.Rests.{behind}
use Rattle.yarn_lock_parser.proofs.Locks.{entry_text-cut, next_place, entries_at-end, entries_at-error, entries_at-more}
use Rattle.yarn_lock_parser.proofs.lockfile.entries_of.Goals as goal

pub loop-one-smaller : goal.loop-one-smaller
loop-one-smaller c = (entry_text-cut _ _ (sym c.in-Some.ensures)).later.shorter

pub loop-one-preserved : goal.loop-one-preserved
loop-one-preserved c =
    let one = sym c.in-Some.ensures in
    let more = entries_at-more c.loop-one.found.items c.in-Ok.entry (place_in c.args.content.now c.loop-one.rest.now) _
    _ one c.in-Ok.ensures.read in
    let place = next_place c.args.content.now _ _ c.loop-one.invariant.rest one in
    record {
      text = search rules;
      rest = behind c.loop-one.invariant.rest (entry_text-cut _ _ one).later.rest_is;
      whole = rw (c.in_ok-push-in-Ok.ensures.items, ← place) (more ∙ c.loop-one.invariant.whole);
    }

pub returns-in-Err-clause-refused : goal.returns-in-Err-clause-refused
returns-in-Err-clause-refused c =
    let told = entries_at-error c.loop-one.found.items (place_in c.args.content.now c.loop-one.rest.now) _ _ c.in-Err.e
    (sym c.in-Some.ensures) c.in-Err.ensures.refused in
    rw (c.at.ensures, c.place_in-place.ensures, ← c.loop-one.invariant.whole) told

pub returns-clause-read : goal.returns-clause-read
returns-clause-read c = sym c.loop-one.invariant.whole
    ∙ entries_at-end c.loop-one.found.items (place_in c.args.content.now c.loop-one.rest.now) _
    (sym c.in_default.ensures)
