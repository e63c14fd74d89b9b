use Rattle.std.proofs.Common.{◌∙◌}
use Rattle.std.proofs.lemmas.Slice.Eq.{bytes_eq-Decides}
use Rattle.trail_bundle.proofs.Readings.{no-step, step-read-as}
use Rattle.trail_bundle.proofs.line_reading.step_on.Goals as goal

pub returns-in-Err-OtherKind-clause-none : goal.returns-in-Err-OtherKind-clause-none
returns-in-Err-OtherKind-clause-none c =
    λ step h is. no-step c.args.line.now step h (rw c.in-Err-OtherKind.field-0-is at c.in-Err-OtherKind.ensures.read) is

pub returns-clause-none : goal.returns-clause-none
returns-clause-none c = λ step h is.
    let same = c.in_ok-written.ensures ∙ step-read-as c.args.line.now step c.in-Ok.step h c.in-Ok.ensures.read is in
    let yes = c.is_text.ensures ∙ (bytes_eq-Decides _ _).1 same in
    let no = c.if-is_text.false in
    cc
