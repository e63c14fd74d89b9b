use Rattle.document_core.proofs.Documents.{error_refused}
use Rattle.document_core.proofs.cause.DocumentErrorFromProjectError.from.Goals as goal

pub returns-in_default : goal.returns-in_default
returns-in_default c = error_refused c.args.e c.in_default.not-NoMemory
