use Rattle.std.proofs.Common.{◌≡◌, Ok, Some, refl, ap, ◌∙◌, rules}
use Rattle.std.specs.List.{after_last}
use Rattle.tree_core.proofs.Asking.{asks_as, asks_done, asks_fails, asks_starved}
use Rattle.resolver_core.specs.Mapping.{is_slash, unchecked, by_mapped}
use Rattle.resolver_core.proofs.requests.by_only_target.Goals as goal

pub returns-in_err-tried-clause-asks : goal.returns-in_err-tried-clause-asks
unfolding by_mapped
returns-in_err-tried-clause-asks g c =
    asks_fails _ _ c.from_residual-in_err-tried.ensures.1 (rw (c.as_str.ensures, c.in_ok-path.ensures) at
    c.in_err-tried.ensures.asks)

pub returns-in-Ok-clause-asks : goal.returns-in-Ok-clause-asks
unfolding by_mapped
returns-in-Ok-clause-asks g c =
    asks_as _ (rw (c.as_str.ensures, c.in_ok-path.ensures) at c.in_ok-tried.ensures.asks) c.in-Ok.is (asks_done refl)

pub returns-in_err-slug-in-Err-clause-asks : goal.returns-in_err-slug-in-Err-clause-asks
unfolding by_mapped
returns-in_err-slug-in-Err-clause-asks g c =
    asks_as _ (rw (c.as_str.ensures, c.in_ok-path.ensures) at c.in_ok-tried.ensures.asks) c.in-Err.is
    (asks_starved _ c.from_residual-in_err-slug-in-Err.ensures.1)

pub returns-in_ok-slug-in-Err-clause-asks : goal.returns-in_ok-slug-in-Err-clause-asks
unfolding by_mapped
returns-in_ok-slug-in-Err-clause-asks g c =
    let slug : c.in_ok-slug-in-Err.slug ≡ after_last is_slash c.in_ok-path.path = search rules in
    let slug_is = rw c.in_ok-path.ensures at slug in
    asks_as _ (rw (c.as_str.ensures, c.in_ok-path.ensures) at c.in_ok-tried.ensures.asks) c.in-Err.is
    (asks_done (ap (λ r. Ok r) (c.unchecked.ensures ∙ (λ i. unchecked (c.in_ok-path.ensures i) (Some (slug_is i))))))
