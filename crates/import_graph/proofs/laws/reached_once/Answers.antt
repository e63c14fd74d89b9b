use Rattle.import_graph.proofs.Graphs.{reached_once as law}
use Rattle.import_graph.proofs.laws.reached_once.Goals as goal

pub returns : goal.returns
returns c = law
