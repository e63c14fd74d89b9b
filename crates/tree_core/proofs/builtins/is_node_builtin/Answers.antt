use Rattle.tree_core.specs.Builtins.{node_builtins, is_builtin}
use Rattle.tree_core.proofs.builtins.is_node_builtin.Goals as goal

pub returns : goal.returns
unfolding node_builtins is_builtin
returns c = c.is_among.ensures
