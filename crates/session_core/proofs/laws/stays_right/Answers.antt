use Rattle.session_core.proofs.Sessions.{session-steps}
use Rattle.session_core.proofs.laws.stays_right.Goals as goal

pub returns : goal.returns
returns c = record { after = session-steps }
