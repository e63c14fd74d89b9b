use Rattle.std.proofs.Common.{bytes_eq}
use Rattle.swc_loader.proofs.KeptReadings.{hold_with_one_more, stands_at}
use Rattle.package_readings.specs.Readings.{IsReadTo}
use Rattle.package_readings.proofs.loaded.place_of.Goals as goal

pub returns-clause-kept : goal.returns-clause-kept
returns-clause-kept c =
    let read = rw c.content.ensures at c.in_ok-package.ensures in
    hold_with_one_more (λ content found. IsReadTo content found) c.make_room.new.kept.entries
    c.insert_full.new.self.entries c.args.key c.in_ok-package.package
    (λ content found is. c.requires content found (c.make_room.ensures content found is)) read
    c.in_ok-place.ensures.updates.0

pub returns-clause-place : goal.returns-clause-place
returns-clause-place c =
    let kept = stands_at bytes_eq c.args.key c.in_ok-package.package c.make_room.new.kept.entries in (
      c.in_ok-package.package,
      rw (c.in_ok-place.ensures.entries, c.in_ok-place.ensures.index) kept,
      rw c.content.ensures at c.in_ok-package.ensures,
    )
