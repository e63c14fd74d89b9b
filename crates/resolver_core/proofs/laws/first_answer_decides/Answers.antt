use Rattle.resolver_core.proofs.FirstAnswers.{first_answer_decides as law}
use Rattle.resolver_core.proofs.laws.first_answer_decides.Goals as goal

pub returns : goal.returns
returns g c = law _
