use Rattle.import_graph.proofs.AfterSteps.{graph_after_steps as law}
use Rattle.import_graph.proofs.laws.graph_after_steps.Goals as goal

pub returns : goal.returns
returns c = law
