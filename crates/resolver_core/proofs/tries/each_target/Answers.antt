use Rattle.std.proofs.Common.{◌≡◌, List, [], ◌∷◌, ◌++◌, ℕ, ◌+◌, map, drop, refl, ◌∙◌, rules}
use Rattle.tree_core.proofs.Asking.{asks_as, asks_done, asks_fails, asks_starved, leads_as, leads_item, leads_end}
use Rattle.resolver_core.specs.Mapping.{tries_of, with_rest}
use Rattle.resolver_core.proofs.Targets.{left_targets, or_next_target, leads-all}
use Rattle.resolver_core.proofs.tries.each_target.Goals as goal

pub loop-target-init : goal.loop-target-init
loop-target-init g c = rw c.new-refusals.ensures (leads-all _ _, refl)

pub returns-in_err-path-clause-asks : goal.returns-in_err-path-clause-asks
returns-in_err-path-clause-asks g c = c.loop-target.invariant.0.to (asks_starved _ c.from_residual.ensures.1)

pub returns-in_err-tried-clause-asks : goal.returns-in_err-tried-clause-asks
returns-in_err-tried-clause-asks g c =
    let left = λ (ts : List (List ℕ)). left_targets (g.R.Resolve.order (g.R.Resolve.view c.args.inner.now))
    (map (tries_of c.args.request.now.folder.now c.args.request.now.base.now c.args.request.now.specifier.now)
    (map (with_rest c.args.rest.now) ts)) c.loop-target.refusals in
    let item = leads_item left c.args.targets.now c.loop-target.target-index c.target-item.result
    c.loop-target.invariant.0 c.loop-target-test.true c.target-item.is in
    item.to (asks_fails _ _ c.from_residual-in_err-tried.ensures.1
    (rw (c.loop-target.invariant.1, c.as_str-in-loop-target.ensures, c.in_ok-path.ensures, c.as_str.ensures) at
    c.in_err-tried.ensures.asks))

pub returns-in-Ok-clause-asks : goal.returns-in-Ok-clause-asks
returns-in-Ok-clause-asks g c =
    let left = λ (ts : List (List ℕ)). left_targets (g.R.Resolve.order (g.R.Resolve.view c.args.inner.now))
    (map (tries_of c.args.request.now.folder.now c.args.request.now.base.now c.args.request.now.specifier.now)
    (map (with_rest c.args.rest.now) ts)) c.loop-target.refusals in
    let item = leads_item left c.args.targets.now c.loop-target.target-index c.target-item.result
    c.loop-target.invariant.0 c.loop-target-test.true c.target-item.is in
    item.to (asks_as _ (rw (
      c.loop-target.invariant.1,
      c.as_str-in-loop-target.ensures,
      c.in_ok-path.ensures,
      c.as_str.ensures,
    ) at c.in_ok-tried.ensures.asks) c.in-Ok.is (asks_done refl))

pub returns-then-is_err-clause-asks : goal.returns-then-is_err-clause-asks
returns-then-is_err-clause-asks g c =
    let left = λ (ts : List (List ℕ)). left_targets (g.R.Resolve.order (g.R.Resolve.view c.args.inner.now))
    (map (tries_of c.args.request.now.folder.now c.args.request.now.base.now c.args.request.now.specifier.now)
    (map (with_rest c.args.rest.now) ts)) c.loop-target.refusals in
    let item = leads_item left c.args.targets.now c.loop-target.target-index c.target-item.result
    c.loop-target.invariant.0 c.loop-target-test.true c.target-item.is in
    item.to (asks_as _ (rw (
      c.loop-target.invariant.1,
      c.as_str-in-loop-target.ensures,
      c.in_ok-path.ensures,
      c.as_str.ensures,
    ) at c.in_ok-tried.ensures.asks) c.in-Err.is (asks_starved _ refl))

pub loop-target-preserved : goal.loop-target-preserved
loop-target-preserved g c =
    let order = g.R.Resolve.order (g.R.Resolve.view c.args.inner.now) in
    let tries = λ (ts : List (List ℕ)). map (tries_of c.args.request.now.folder.now c.args.request.now.base.now
    c.args.request.now.specifier.now) (map (with_rest c.args.rest.now) ts) in
    let item = leads_item (λ ts. left_targets order (tries ts) c.loop-target.refusals) c.args.targets.now
    c.loop-target.target-index c.target-item.result c.loop-target.invariant.0 c.loop-target-test.true
    c.target-item.is in
    let pushed : c.push.new.self ≡ c.loop-target.refusals ++ c.in-Err.refusal ∷ [] = search rules in (
      rw pushed
          (leads_as (or_next_target c.loop-target.refusals (left_targets order
          (tries (drop (c.loop-target.target-index + 1) c.args.targets.now)))) item
          (rw (c.loop-target.invariant.1, c.as_str-in-loop-target.ensures, c.in_ok-path.ensures, c.as_str.ensures) at
          c.in_ok-tried.ensures.asks) c.in-Err.is),
      (rw c.in-Err.is at c.in_ok-tried.ensures.refused) ∙ c.loop-target.invariant.1,
    )

pub returns-clause-asks : goal.returns-clause-asks
returns-clause-asks g c =
    let left = λ (ts : List (List ℕ)). left_targets (g.R.Resolve.order (g.R.Resolve.view c.args.inner.now))
    (map (tries_of c.args.request.now.folder.now c.args.request.now.base.now c.args.request.now.specifier.now)
    (map (with_rest c.args.rest.now) ts)) c.loop-target.refusals in
    (leads_end left c.args.targets.now c.loop-target.target-index c.loop-target.invariant.0 c.loop-target-test.false).to
    (asks_done refl)
