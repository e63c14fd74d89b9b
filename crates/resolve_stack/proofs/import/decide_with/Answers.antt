use Rattle.resolve_stack.proofs.KnownOrders.{asks_known}
use Rattle.resolve_stack.proofs.import.decide_with.Goals as goal

pub returns : goal.returns
returns g c =
    asks_known c.args.known.now.known.now _ _ c.requires (λ t stands. c.args.tree.now.agrees t stands)
    (λ t stands. c.decide_by.new.tree.agrees t (rw c.decide_by.ensures.stands stands)) c.decide_by.ensures
