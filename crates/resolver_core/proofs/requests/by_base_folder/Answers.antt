use Rattle.std.proofs.Common.{◌≡◌, ◌==◌, true, false, get_or, refl, sym, ◌∙◌, lit<}
use Rattle.tree_core.proofs.RowOrders.{then-then}
use Rattle.tree_core.proofs.RowCalls.{by_plan}
use Rattle.tree_core.proofs.Asking.{asks_as, asks_then, asks_done, asks_fails}
use Rattle.resolver_core.specs.Mapping.{by_mapped}
use Rattle.resolver_core.proofs.requests.by_base_folder.Goals as goal

pub returns-then-starts_with-clause-asks : goal.returns-then-starts_with-clause-asks
returns-then-starts_with-clause-asks g c =
    let dot : (get_or c.args.request.now.specifier.now 0 0 == 46) ≡ true =
    sym (c.starts_with.ensures.byte (lit< tt) (lit< tt) (λ _ _ h. h)) ∙ c.if-starts_with.true in
    rw dot c.as_it_is.ensures.asks

pub returns-in_err-tried-clause-asks : goal.returns-in_err-tried-clause-asks
unfolding by_mapped
returns-in_err-tried-clause-asks g c =
    let dot : (get_or c.args.request.now.specifier.now 0 0 == 46) ≡ false =
    sym (c.starts_with.ensures.byte (lit< tt) (lit< tt) (λ _ _ h. h)) ∙ c.if-starts_with.false in
    rw dot (by_plan (then-then _ _ _) (asks_fails _ _ c.from_residual-in_err-tried.ensures.1
    (rw (c.as_str.ensures, c.in_ok-path.ensures) at c.in_err-tried.ensures.asks)))

pub returns-in-Ok-clause-asks : goal.returns-in-Ok-clause-asks
unfolding by_mapped
returns-in-Ok-clause-asks g c =
    let dot : (get_or c.args.request.now.specifier.now 0 0 == 46) ≡ false =
    sym (c.starts_with.ensures.byte (lit< tt) (lit< tt) (λ _ _ h. h)) ∙ c.if-starts_with.false in
    rw dot (by_plan (then-then _ _ _) (asks_as _ (rw (c.as_str.ensures, c.in_ok-path.ensures) at
    c.in_ok-tried.ensures.asks) c.in-Ok.is (asks_then _ (asks_done refl) (asks_done refl))))

pub returns-clause-asks : goal.returns-clause-asks
unfolding by_mapped
returns-clause-asks g c =
    let dot : (get_or c.args.request.now.specifier.now 0 0 == 46) ≡ false =
    sym (c.starts_with.ensures.byte (lit< tt) (lit< tt) (λ _ _ h. h)) ∙ c.if-starts_with.false in
    let same = rw c.in-Err.is at c.in_ok-tried.ensures.refused in
    rw dot (by_plan (then-then _ _ _) (asks_as _ (rw (c.as_str.ensures, c.in_ok-path.ensures) at
    c.in_ok-tried.ensures.asks) c.in-Err.is (rw same at c.as_it_is-in-Err.ensures.asks)))
