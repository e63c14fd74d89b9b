use Rattle.import_graph.proofs.LineLaws.{lines_import_in_turn as law}
use Rattle.import_graph.proofs.laws.lines_import_in_turn.Goals as goal

pub returns : goal.returns
returns c = law
