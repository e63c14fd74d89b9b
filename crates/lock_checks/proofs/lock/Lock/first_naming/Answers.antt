use Rattle.std.proofs.Common.{ap, ◌∙◌}
use Rattle.std.specs.Prelude.{option_and_then, slice_get}
use Rattle.lock_checks.specs.Naming.{names_locator}
use Rattle.lock_checks.proofs.FirstPlaces.{find-first_place}
use Rattle.lock_checks.proofs.lock.Lock.first_naming.Goals as goal

pub returns-in-Some : goal.returns-in-Some
returns-in-Some c =
    let lock = c.args.self.now in
    let place = rw (c.plain_reference-reference.ensures, c.as_str.ensures, c.as_str-name.ensures, c.in-Some.is) at
    c.in_ok-place.ensures in
    c.entry_at.ensures
    ∙ ap (option_and_then (slice_get lock.entries)) place
    ∙ find-first_place (λ e. names_locator e lock.version c.args.locator.now) lock.entries

pub returns-in-None : goal.returns-in-None
returns-in-None c =
    let lock = c.args.self.now in
    let place = rw (c.plain_reference-reference.ensures, c.as_str.ensures, c.as_str-name.ensures, c.in-None.is) at
    c.in_ok-place.ensures in
    ap (option_and_then (slice_get lock.entries)) place
    ∙ find-first_place (λ e. names_locator e lock.version c.args.locator.now) lock.entries
