use Rattle.std.proofs.Common.{ap, ◌∙◌, Some}
use Rattle.cli_core.specs.Command.{asked}
use Rattle.cli_core.specs.MemoryStreams.{CountingRoom}
use Rattle.examples_check.proofs.Replies.{holds_report, holds_cause}
use Rattle.examples_check.proofs.written.Goals as goal

pub returns-in-Done : goal.returns-in-Done
returns-in-Done c =
    let named = ap asked c.deref.ensures.value ∙ c.in_ok-words.ensures in
    let given = ap (λ b. Some b) (c.new-source.ensures ∙ c.in_ok-from_vec.ensures) in
    let empty = ap (λ (s : CountingRoom). s.written) c.in_ok-sink.ensures in
    holds_report c.args.kind _ _ _ _ empty ((c.run.ensures.reports c.args.kind named).1.done c.in-Done.is _ given)

pub returns-in-Refused : goal.returns-in-Refused
returns-in-Refused c =
    let named = ap asked c.deref.ensures.value ∙ c.in_ok-words.ensures in
    let given = ap (λ b. Some b) (c.new-source.ensures ∙ c.in_ok-from_vec.ensures) in
    let empty = ap (λ (s : CountingRoom). s.written) c.in_ok-sink.ensures in
    holds_cause c.args.kind _ _ _ _ empty ((c.run.ensures.reports c.args.kind named).1.refused c.in-Refused.is _ given)
