use Rattle.std.proofs.Common.{refl, sym, ◌∙◌}
use Rattle.tree_core.proofs.Asking.{asks_then, asks_done, asks_fails, asks_starved, leads_self, leads_as}
use Rattle.swc_loader.proofs.Walks.{up-above, up-root, up-shorter}
use Rattle.swc_loader.proofs.walk.walk.Goals as goal

pub returns-in_err-folder : goal.returns-in_err-folder
returns-in_err-folder g c = asks_starved _ c.from_residual.ensures.1

pub up-init : goal.up-init
up-init g c = rw c.in_ok-folder.ensures leads_self

pub up-preserved : goal.up-preserved
up-preserved g c =
    let above = up-above _ _ c.go_up.ensures.went c.if-not-go_up.false in
    let goes_on = sym c.ends_walk.ensures ∙ c.if-ends_walk.false in
    rw c.go_up.ensures.up (rw (goes_on, above) at (leads_as _ c.up.invariant c.in_ok-found.ensures refl))

pub up-preserved-else-not-go_up-2 : goal.up-preserved-else-not-go_up-2
up-preserved-else-not-go_up-2 g c =
    let above = up-above _ _ c.go_up.ensures.went c.if-not-go_up.false in
    let goes_on = sym c.ends_walk.ensures ∙ c.if-ends_walk.false in
    rw c.go_up.ensures.up (rw (goes_on, above) at (leads_as _ c.up.invariant c.in_ok-found.ensures refl))

pub up-smaller : goal.up-smaller
up-smaller g c = rw c.go_up.ensures.up (up-shorter _ _ c.go_up.ensures.went c.if-not-go_up.false)

pub returns-in_err-found : goal.returns-in_err-found
returns-in_err-found g c =
    c.up.invariant.to (asks_fails _ _ c.from_residual-in_err-found.ensures.1 c.in_err-found.ensures)

pub returns-then-ends_walk : goal.returns-then-ends_walk
returns-then-ends_walk g c =
    let ends = sym c.ends_walk.ensures ∙ c.if-ends_walk.true in
    c.up.invariant.to (asks_then _ c.in_ok-found.ensures (rw ends (asks_done refl)))

pub returns-then-not-go_up : goal.returns-then-not-go_up
returns-then-not-go_up g c =
    let top = up-root _ _ c.go_up.ensures.went c.if-not-go_up.true in
    let goes_on = sym c.ends_walk.ensures ∙ c.if-ends_walk.false in
    c.up.invariant.to (asks_then _ c.in_ok-found.ensures (rw (goes_on, top) (asks_done refl)))
