use Rattle.std.proofs.Common.{ap, refl, sym, ◌∙◌}
use Rattle.std.specs.Prelude.{option_map}
use Rattle.json_reading.proofs.Readings.{reads_stops, reads_then, some_then}
use Rattle.sugar_path.proofs.Bools.{and_both}
use Rattle.tree_core.specs.Question.{fits}
use Rattle.trail_bundle.specs.Bundle.{holds_bytes}
use Rattle.trail_bundle.specs.LineReading.{step_of}
use Rattle.trail_bundle.proofs.Readings.{reply_to-fits, step_of-nothing}
use Rattle.trail_bundle.proofs.line_reading.step_from.Goals as goal

pub returns-in_default-clause-read : goal.returns-in_default-clause-read
returns-in_default-clause-read c = step_of-nothing _ (sym c.step_parts.ensures ∙ ap (option_map _) c.in_default.is)

pub returns-in_err-question-clause-read : goal.returns-in_err-question-clause-read
unfolding step_of
returns-in_err-question-clause-read c =
    reads_then _ _ _ (sym c.in-Some.ensures)
    (reads_stops _ _ _ _ c.from_residual.ensures.1 c.in_err-question.ensures)

pub returns-in_err-reply-clause-read : goal.returns-in_err-reply-clause-read
unfolding step_of
returns-in_err-reply-clause-read c =
    reads_then _ _ _ (sym c.in-Some.ensures)
    (reads_then _ _ _ c.in_ok-question.ensures
    (reads_stops _ _ _ _ c.from_residual-in_err-reply.ensures.1 c.in_err-reply.ensures.read))

pub returns-clause-read : goal.returns-clause-read
unfolding step_of
returns-clause-read c =
    some_then _ _ (sym c.in-Some.ensures) (some_then _ _ c.in_ok-question.ensures
    (some_then _ _ c.in_ok-reply.ensures.read refl))

pub returns-clause-reply : goal.returns-clause-reply
returns-clause-reply c =
    and_both (fits c.in_ok-question.question c.in_ok-reply.reply) (holds_bytes c.in_ok-reply.reply)
    (reply_to-fits _ _ _ c.in_ok-reply.ensures.read) c.in_ok-reply.ensures.bytes
