use Rattle.std.proofs.Common.{refl}
use Rattle.tree_core.proofs.Asking.{asks_as, asks_done, asks_fails, asks_starved, leads_self, leads_as}
use Rattle.pnp_core.specs.Nearest.{manifest_file}
use Rattle.pnp_core.proofs.Walking.{nearest-step, told, told_root, parent-shorter}
use Rattle.pnp_core.proofs.nearest.closest_manifest.Goals as goal

pub up-init : goal.up-init
up-init g c = rw c.in_ok-folder.ensures leads_self

pub up-preserved : goal.up-preserved
unfolding manifest_file
up-preserved g c =
    let h = rw (nearest-step c.up.folder, ← c.in_ok-manifest.ensures) at c.up.invariant in
    let root = told _ _ c.go_up.ensures.went c.if-not-go_up.false in
    rw c.go_up.ensures.up (rw root at (leads_as _ h c.in_ok-exists.ensures c.if-branch.false))

pub up-smaller : goal.up-smaller
up-smaller g c =
    let root = told _ _ c.go_up.ensures.went c.if-not-go_up.false in
    rw c.go_up.ensures.up (parent-shorter c.up.folder root)

pub returns-in_err-manifest : goal.returns-in_err-manifest
returns-in_err-manifest g c = c.up.invariant.to (asks_starved _ c.from_residual-in_err-manifest.ensures.1)

pub returns-in_err-exists : goal.returns-in_err-exists
unfolding manifest_file
returns-in_err-exists g c =
    let h = rw (nearest-step c.up.folder, ← c.in_ok-manifest.ensures) at c.up.invariant in
    h.to (asks_fails _ _ c.from_residual-in_err-exists.ensures.1 c.in_err-exists.ensures)

pub returns-then-branch : goal.returns-then-branch
unfolding manifest_file
returns-then-branch g c =
    let h = rw (nearest-step c.up.folder, ← c.in_ok-manifest.ensures) at c.up.invariant in
    h.to (asks_as _ c.in_ok-exists.ensures c.if-branch.true (asks_done refl))

pub returns-then-not-go_up : goal.returns-then-not-go_up
unfolding manifest_file
returns-then-not-go_up g c =
    let h = rw (nearest-step c.up.folder, ← c.in_ok-manifest.ensures) at c.up.invariant in
    let root = told_root _ _ c.go_up.ensures.went c.if-not-go_up.true in
    h.to (asks_as _ c.in_ok-exists.ensures c.if-branch.false (rw root (asks_done refl)))
