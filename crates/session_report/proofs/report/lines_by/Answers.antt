use Rattle.std.proofs.Common.{Ok, ap, sym, ◌∙◌}
use Rattle.session_report.specs.Lines.{step_lines}
use Rattle.session_report.proofs.Questions.{lines-counting}
use Rattle.session_report.proofs.report.lines_by.Goals as goal

pub returns : goal.returns
returns c =
    rw c.in_ok-project.ensures
    (ap Ok (sym (c.in_ok-lines_of.ensures ∙ ap (λ s. step_lines s c.args.steps.now) c.in_ok-session.ensures
    ∙ lines-counting c.args.steps.now _ c.args.tree.questions)))
