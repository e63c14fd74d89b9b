use Rattle.import_graph.proofs.Graphs.{reached_by_walks as law}
use Rattle.import_graph.proofs.laws.reached_by_walks.Goals as goal

pub returns : goal.returns
returns c = law
