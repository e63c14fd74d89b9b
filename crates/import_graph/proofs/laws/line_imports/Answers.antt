use Rattle.import_graph.proofs.LineLaws.{line_imports as law}
use Rattle.import_graph.proofs.laws.line_imports.Goals as goal

pub returns : goal.returns
returns c = law
