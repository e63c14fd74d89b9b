use Rattle.std.proofs.Common.{Err, refl, sym}
use Rattle.cli_core.proofs.replaying.reply_to.Goals as goal

pub returns-in_ok-line_of_cause-in-Err-Refused : goal.returns-in_ok-line_of_cause-in-Err-Refused
returns-in_ok-line_of_cause-in-Err-Refused c =
    let told = rw c.in-Err-Refused.field-0-is at c.in-Err-Refused.ensures in
    record {
      told = Err c.in-Err-Refused.cause;
      is_report = told;
      holds = (refl, sym c.in_ok-line_of_cause-in-Err-Refused.ensures);
    }
