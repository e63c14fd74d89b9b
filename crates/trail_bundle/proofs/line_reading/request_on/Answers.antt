use Rattle.std.proofs.Common.{◌∙◌}
use Rattle.std.proofs.lemmas.Slice.Eq.{bytes_eq-Decides}
use Rattle.trail_bundle.proofs.Readings.{no-request, read-as}
use Rattle.trail_bundle.proofs.line_reading.request_on.Goals as goal

pub returns-in-Err-OtherKind-clause-none : goal.returns-in-Err-OtherKind-clause-none
returns-in-Err-OtherKind-clause-none c =
    λ r is. no-request c.args.line.now r (rw c.in-Err-OtherKind.field-0-is at c.in-Err-OtherKind.ensures) is

pub returns-clause-none : goal.returns-clause-none
returns-clause-none c = λ r is.
    let same = c.in_ok-written.ensures ∙ read-as c.args.line.now r c.in-Ok.request c.in-Ok.ensures is in
    let yes = c.is_text.ensures ∙ (bytes_eq-Decides _ _).1 same in
    let no = c.if-is_text.false in
    cc
