use Rattle.std.proofs.Common.{◌≡◌, ◌∷◌, [], ◌∙◌, arith, append-nil}
use Rattle.std.proofs.lemmas.Grind.{common_steps}
use Rattle.tree_core.proofs.Asking.{asks_done, asks_fails, asks_starved, leads_self, leads_as}
use Rattle.swc_loader.proofs.BrowserRuling.{left_rules-all, leads_entry, leads_no_entry}
use Rattle.swc_loader.proofs.browser_rules.each_rule.Goals as goal

pub loop-key-init : goal.loop-key-init
loop-key-init g c =
    let same = c.into_iter-key-iterator.ensures.into_iter_gives ∙ c.iter-key-items.ensures.rest in
    (tt, tt, rw (same, c.new-rules.ensures.items, left_rules-all c.args.conventions.now c.args.root.now) leads_self)

pub returns-in_err-rule : goal.returns-in_err-rule
returns-in_err-rule g c =
    let iter : c.loop-key.key-iterator ≡ (c.in-Some.key.now, c.in-Some.value.now) ∷ c.next.new.self =
    grind (arith, common_steps) in
    let h = leads_entry c.args.conventions.now c.args.root.now c.loop-key.rules.items c.loop-key.key-iterator
    (c.in-Some.key.now, c.in-Some.value.now) c.next.new.self iter c.loop-key.invariant.2 in
    h.to (asks_fails _ _ c.from_residual.ensures.1 (rw c.as_str.ensures.value at c.in_err-rule.ensures))

pub loop-key-preserved-in-Continue-branch-3 : goal.loop-key-preserved-in-Continue-branch-3
loop-key-preserved-in-Continue-branch-3 g c =
    let iter : c.loop-key.key-iterator ≡ (c.in-Some.key.now, c.in-Some.value.now) ∷ c.next.new.self =
    grind (arith, common_steps) in
    let h = leads_entry c.args.conventions.now c.args.root.now c.loop-key.rules.items c.loop-key.key-iterator
    (c.in-Some.key.now, c.in-Some.value.now) c.next.new.self iter c.loop-key.invariant.2 in (
      tt,
      tt,
      rw c.in_ok-put_rule.ensures (leads_as _ h (rw c.as_str.ensures.value at c.in_ok-rule.ensures)
          c.in-Some-2.is),
    )

pub returns-in_err-put_rule : goal.returns-in_err-put_rule
returns-in_err-put_rule g c =
    let iter : c.loop-key.key-iterator ≡ (c.in-Some.key.now, c.in-Some.value.now) ∷ c.next.new.self =
    grind (arith, common_steps) in
    let h = leads_entry c.args.conventions.now c.args.root.now c.loop-key.rules.items c.loop-key.key-iterator
    (c.in-Some.key.now, c.in-Some.value.now) c.next.new.self iter c.loop-key.invariant.2 in
    let rest = leads_as _ h (rw c.as_str.ensures.value at c.in_ok-rule.ensures) c.in-Some-2.is in
    rest.to (asks_starved _ c.from_residual-in_err-put_rule.ensures.1)

pub loop-key-preserved : goal.loop-key-preserved
loop-key-preserved g c =
    let iter : c.loop-key.key-iterator ≡ (c.in-Some.key.now, c.in-Some.value.now) ∷ c.next.new.self =
    grind (arith, common_steps) in
    let h = leads_entry c.args.conventions.now c.args.root.now c.loop-key.rules.items c.loop-key.key-iterator
    (c.in-Some.key.now, c.in-Some.value.now) c.next.new.self iter c.loop-key.invariant.2 in
    let rest = leads_as _ h (rw c.as_str.ensures.value at c.in_ok-rule.ensures) c.in_default.is in
    (tt, tt, rw (append-nil c.loop-key.rules.items) at rest)

pub returns : goal.returns
returns g c =
    let none : c.loop-key.key-iterator ≡ [] = grind (arith, common_steps) in
    let h = leads_no_entry c.args.conventions.now c.args.root.now c.loop-key.rules.items c.loop-key.key-iterator none
    c.loop-key.invariant.2 in
    h.to (asks_done c.from.ensures)
