use Rattle.tree_core.specs.Resolving.{resolving}
use Rattle.tree_core.proofs.Asking.{asks_starved_in}
use Rattle.swc_loader.proofs.NodeOrders.{no_path}
use Rattle.swc_loader.proofs.resolver.NodeModulesResolver.node_order_with.Goals as goal

pub order_without_importer-requires : goal.order_without_importer-requires
order_without_importer-requires g c = no_path c.args.base.now c.in_default.not-Real

pub returns-in_err-path : goal.returns-in_err-path
returns-in_err-path g c = asks_starved_in resolving _ c.from_residual.ensures.1

pub node_order_from-requires : goal.node_order_from-requires
node_order_from-requires g c = rw c.as_str-2.ensures (rw (c.cwd.ensures, c.as_str.ensures) at c.in_ok-path.ensures)

pub returns : goal.returns
returns g c = rw c.in-Real.is (rw c.as_str-2.ensures at c.node_order_from.ensures)
