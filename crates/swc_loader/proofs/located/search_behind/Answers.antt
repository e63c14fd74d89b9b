use Rattle.std.proofs.Common.{ap, sym, ◌∙◌}
use Rattle.sugar_path.specs.Path.{path_eq}
use Rattle.tree_core.specs.Resolving.{resolving}
use Rattle.tree_core.proofs.Asking.{asks_then, asks_fails_in, asks_starved_in}
use Rattle.swc_loader.specs.Located.{inside}
use Rattle.swc_loader.proofs.Places.{asks_place}
use Rattle.swc_loader.proofs.located.search_behind.Goals as goal

pub returns-in_err-behind : goal.returns-in_err-behind
returns-in_err-behind g c = asks_starved_in resolving _ c.from_residual.ensures.1

pub returns-in_err-at : goal.returns-in_err-at
returns-in_err-at g c = asks_starved_in resolving _ c.from_residual-in_err-at.ensures.1

pub returns-then-eq : goal.returns-then-eq
returns-then-eq g c =
    let text = c.as_str-text.ensures.value ∙ c.in_ok-behind.ensures in
    let same = ap (λ p. path_eq p c.args.location.now) (sym (rw (c.root.ensures, text) at c.in_ok-at.ensures))
    ∙ sym c.eq.ensures ∙ c.if-eq.true in
    rw same c.search_whole.ensures

pub returns-in_err-found : goal.returns-in_err-found
unfolding inside
returns-in_err-found g c =
    let text = c.as_str-text.ensures.value ∙ c.in_ok-behind.ensures in
    let other = ap (λ p. path_eq p c.args.location.now) (sym (rw (c.root.ensures, text) at c.in_ok-at.ensures))
    ∙ sym c.eq.ensures ∙ c.if-eq.false in
    rw other
    (asks_fails_in resolving _ _ c.from_residual-in_err-found.ensures.1
    (asks_place c.context-context.ensures.conventions c.context-context.ensures.target text text c.root.ensures
    c.in_ok-at.ensures c.in_err-found.ensures))

pub returns : goal.returns
unfolding inside
returns g c =
    let text = c.as_str-text.ensures.value ∙ c.in_ok-behind.ensures in
    let other = ap (λ p. path_eq p c.args.location.now) (sym (rw (c.root.ensures, text) at c.in_ok-at.ensures))
    ∙ sym c.eq.ensures ∙ c.if-eq.false in
    rw other
    (asks_then _ (asks_place c.context-context.ensures.conventions c.context-context.ensures.target text text
    c.root.ensures c.in_ok-at.ensures c.in_ok-found.ensures) (rw text at c.placed_file.ensures))
