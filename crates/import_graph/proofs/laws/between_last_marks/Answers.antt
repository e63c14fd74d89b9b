use Rattle.import_graph.proofs.MarkLaws.{between_last_marks as law}
use Rattle.import_graph.proofs.laws.between_last_marks.Goals as goal

pub returns : goal.returns
returns c = law
