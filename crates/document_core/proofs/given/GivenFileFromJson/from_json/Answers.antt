use Rattle.std.proofs.Common.{refl}
use Rattle.json_reading.proofs.Readings.{reads_stops, reads_then, some_then}
use Rattle.document_core.specs.Given.{file_of}
use Rattle.document_core.proofs.given.GivenFileFromJson.from_json.Goals as goal

pub returns-in_err-given : goal.returns-in_err-given
unfolding file_of
returns-in_err-given g c = reads_stops _ _ _ _ c.from_residual.ensures.1 c.in_err-given.ensures

pub returns-in_err-content : goal.returns-in_err-content
unfolding file_of
returns-in_err-content g c =
    let content = rw (c.member.ensures, c.member-2.ensures) at c.in_err-content.ensures in
    reads_then _ _ _ c.in_ok-given.ensures (reads_stops _ _ _ _ c.from_residual-in_err-content.ensures.1 content)

pub returns-in_err-canonical : goal.returns-in_err-canonical
unfolding file_of
returns-in_err-canonical g c =
    let content = rw (c.member.ensures, c.member-2.ensures) at c.in_ok-content.ensures in
    let canonical = rw (c.member-3.ensures, c.in_ok-path.ensures) at c.in_err-canonical.ensures in
    reads_then _ _ _ c.in_ok-given.ensures (reads_then _ _ _ content
    (reads_stops _ _ _ _ c.from_residual-in_err-canonical.ensures.1 canonical))

pub returns : goal.returns
unfolding file_of
returns g c =
    let content = rw (c.member.ensures, c.member-2.ensures) at c.in_ok-content.ensures in
    let canonical = rw (c.member-3.ensures, c.in_ok-path.ensures) at c.in_ok-canonical.ensures in
    some_then _ _ c.in_ok-given.ensures (some_then _ _ content
    (some_then _ _ canonical (rw (c.in_ok-path.ensures) refl)))
