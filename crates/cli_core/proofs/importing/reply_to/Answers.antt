use Rattle.std.proofs.Common.{sym, ap, ◌∙◌}
use Rattle.cli_core.specs.ListsImports.{reply_as}
use Rattle.cli_core.specs.declared.status.Status.TheVariants.{Refused}
use Rattle.cli_core.proofs.importing.reply_to.Goals as goal

pub returns-in-Ok : goal.returns-in-Ok
returns-in-Ok c = sym (ap reply_as c.in-Ok.ensures)

pub returns-in_ok-line_of_source_cause-in-Err-Refused : goal.returns-in_ok-line_of_source_cause-in-Err-Refused
returns-in_ok-line_of_source_cause-in-Err-Refused c =
    let refused = rw c.in-Err-Refused.field-0-is at c.in-Err-Refused.ensures in
    ap (λ t. (Refused, t)) c.in_ok-line_of_source_cause-in-Err-Refused.ensures ∙ sym (ap reply_as refused)
