use Rattle.std.proofs.Common.{bytes_eq}
use Rattle.swc_loader.specs.Readings.{IsReadingOf}
use Rattle.swc_loader.proofs.KeptReadings.{hold_with_one_more, stands_at}
use Rattle.swc_loader.proofs.readings.place_of.Goals as goal

pub returns-clause-kept : goal.returns-clause-kept
returns-clause-kept c =
    let parsed = rw (c.as_slice.ensures, c.content.ensures) at c.in_ok-value.ensures in
    hold_with_one_more (λ bytes value. IsReadingOf bytes value) c.make_room.new.kept.entries
    c.insert_full.new.self.entries c.args.key c.in_ok-value.value
    (λ bytes value is. c.requires bytes value (c.make_room.ensures bytes value is)) parsed
    c.in_ok-place.ensures.updates.0

pub returns-clause-place : goal.returns-clause-place
returns-clause-place c =
    let kept = stands_at bytes_eq c.args.key c.in_ok-value.value c.make_room.new.kept.entries in (
      c.in_ok-value.value,
      rw (c.in_ok-place.ensures.entries, c.in_ok-place.ensures.index) kept,
      rw (c.as_slice.ensures, c.content.ensures) at c.in_ok-value.ensures,
    )
