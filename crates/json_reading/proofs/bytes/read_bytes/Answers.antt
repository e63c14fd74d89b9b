use Rattle.std.proofs.Common.{sym, subst}
use Rattle.json_reading.specs.Reading.{ReadsAs}
use Rattle.json_reading.proofs.JsonBytes.{json_of-text}
use Rattle.json_reading.proofs.bytes.read_bytes.Goals as goal

pub returns-in-Ok : goal.returns-in-Ok
returns-in-Ok c =
    subst (ReadsAs _) (sym (json_of-text _ _ c.in-Ok.ensures.cases.0 c.in-Ok.ensures.cases.1)) c.read_text.ensures.value
