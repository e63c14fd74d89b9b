use Rattle.imports_report.proofs.Reports.{report_of_bytes, report_of_text}
use Rattle.imports_report.proofs.report.imports_report_for.Goals as goal

pub returns-in-Ok : goal.returns-in-Ok
returns-in-Ok c =
    rw (report_of_text c.args.jsx c.args.bytes.now c.in-Ok.ensures.cases.1, ← c.in-Ok.ensures.cases.0)
    c.report_on.ensures

pub returns-in-Err : goal.returns-in-Err
returns-in-Err c =
    rw (c.valid_up_to.ensures, c.in-Err.ensures.valid_len)
    (report_of_bytes c.args.jsx c.args.bytes.now c.in-Err.ensures.cases.0)
