use Rattle.std.proofs.Common.{sym}
use Rattle.resolver_core.specs.declared.refusal.TsRefusal.TheVariants.{Inner}
use Rattle.resolve_stack.proofs.Raising.{asks_raised_result, asks_mapped, asks_unmapped}
use Rattle.resolve_stack.proofs.import.by_order.Goals as goal

pub returns-in-Some : goal.returns-in-Some
returns-in-Some g c =
    asks_mapped _ _ _ _ _ (sym c.in-Some.ensures) (rw (c.of-inner.ensures.project, c.of-inner.ensures.known) at
    c.resolve.ensures.resolves)

pub returns-in-None : goal.returns-in-None
returns-in-None g c =
    asks_unmapped _ _ _ _ (sym c.in-None.ensures) (rw c.inner_refusal.ensures
    (asks_raised_result Inner _ c.join.ensures))
