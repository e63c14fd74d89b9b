use Rattle.std.proofs.Common.{[], bytes_eq, ap, ◌∙◌}
use Rattle.indexmap.specs.IndexSet.{insert_all}
use Rattle.import_graph.proofs.Repeats.{once-is}
use Rattle.import_graph.proofs.imports.Imports.of.Goals as goal

pub returns : goal.returns
returns c = c.in_ok-texts.ensures ∙ ap (insert_all bytes_eq []) c.from.ensures ∙ once-is c.args.texts
