use Rattle.import_graph.proofs.Graphs.{levels_end as law}
use Rattle.import_graph.proofs.laws.levels_end.Goals as goal

pub returns : goal.returns
returns c = law
