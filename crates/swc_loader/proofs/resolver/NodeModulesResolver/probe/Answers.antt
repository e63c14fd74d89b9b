use Rattle.std.proofs.Common.{◌∙◌, refl, sym}
use Rattle.tree_core.proofs.Asking.{asks_done}
use Rattle.swc_loader.proofs.resolver.NodeModulesResolver.probe.Goals as goal

pub returns-then-not-is_probed : goal.returns-then-not-is_probed
returns-then-not-is_probed g c = rw (sym c.is_probed.ensures ∙ c.if-not-is_probed.true) (asks_done refl)

pub returns : goal.returns
returns g c =
    rw (sym c.is_probed.ensures ∙ c.if-not-is_probed.false, ← c.self.view_is)
    (rw c.in_ok-at.ensures at c.place_without_entry.ensures)
