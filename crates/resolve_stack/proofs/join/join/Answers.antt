use Rattle.std.proofs.Common.{refl, sym}
use Rattle.tree_core.specs.Resolving.{resolving}
use Rattle.tree_core.proofs.Asking.{asks_starved_in}
use Rattle.resolve_stack.specs.Known.{join_by, nearest_manifest_by, manifest_in_by}
use Rattle.resolve_stack.proofs.Raising.{some_row, none_row}
use Rattle.tree_core.proofs.RowCalls.{row_then, row_fails, ends_row, after_row, stops_row}
use Rattle.resolve_stack.proofs.join.join.Goals as goal

pub returns-in_default : goal.returns-in_default
unfolding join_by
returns-in_default g c =
    none_row c.args.known.now.project.now _ _ _ (sym (rw c.in_default.is at c.bare_base.ensures)) c.by_node_rows.ensures

pub returns-in_err-path : goal.returns-in_err-path
unfolding join_by
returns-in_err-path g c =
    some_row c.args.known.now.project.now _ _ _ (sym c.in-Some.ensures)
    (asks_starved_in resolving _ c.from_residual.ensures.1)

pub returns-in_err-file : goal.returns-in_err-file
unfolding join_by nearest_manifest_by
returns-in_err-file g c =
    let nearest = rw (c.in_ok-path.ensures, c.cwd.ensures) at c.in_err-file.ensures in
    some_row c.args.known.now.project.now _ _ _ (sym c.in-Some.ensures)
    (row_fails (manifest_in_by c.args.known.now.known.now c.args.known.now.project.now _) _ _
    c.from_residual-in_err-file.ensures.1 nearest)

pub returns-in_default-2 : goal.returns-in_default-2
unfolding join_by nearest_manifest_by
returns-in_default-2 g c =
    let nearest = rw (c.in_ok-path.ensures, c.cwd.ensures) at c.in_ok-file.ensures in
    some_row c.args.known.now.project.now _ _ _ (sym c.in-Some.ensures)
    (row_then (manifest_in_by c.args.known.now.known.now c.args.known.now.project.now _) _ nearest
    c.in_default-2.is (ends_row _ c.by_node_rows_from.ensures))

pub returns-in_err-manifest : goal.returns-in_err-manifest
unfolding join_by nearest_manifest_by
returns-in_err-manifest g c =
    let nearest = rw (c.in_ok-path.ensures, c.cwd.ensures) at c.in_ok-file.ensures in
    some_row c.args.known.now.project.now _ _ _ (sym c.in-Some.ensures)
    (row_then (manifest_in_by c.args.known.now.known.now c.args.known.now.project.now _) _ nearest c.in-Some-2.is
    (stops_row _ _ _ c.from_residual-in_err-manifest.ensures.1 c.in_err-manifest.ensures.asks))

pub returns-in_err-owner : goal.returns-in_err-owner
unfolding join_by nearest_manifest_by
returns-in_err-owner g c =
    let nearest = rw (c.in_ok-path.ensures, c.cwd.ensures) at c.in_ok-file.ensures in
    some_row c.args.known.now.project.now _ _ _ (sym c.in-Some.ensures)
    (row_then (manifest_in_by c.args.known.now.known.now c.args.known.now.project.now _) _ nearest c.in-Some-2.is
    (after_row _ c.in_ok-manifest.ensures.asks
    (asks_starved_in resolving _ c.from_residual-in_err-owner.ensures.1)))

pub returns-in_default-3 : goal.returns-in_default-3
unfolding join_by nearest_manifest_by
returns-in_default-3 g c =
    let nearest = rw (c.in_ok-path.ensures, c.cwd.ensures) at c.in_ok-file.ensures in
    let owner = sym (rw (c.in_ok-path.ensures, c.cwd.ensures, c.in_default-3.is) at c.in_ok-owner.ensures) in
    some_row c.args.known.now.project.now _ _ _ (sym c.in-Some.ensures)
    (row_then (manifest_in_by c.args.known.now.known.now c.args.known.now.project.now _) _ nearest c.in-Some-2.is
    (after_row _ c.in_ok-manifest.ensures.asks
    (none_row c.args.known.now.project.now _ _ _ owner c.by_node_rows_from-in_default-3.ensures)))

pub join_owned-requires : goal.join_owned-requires
join_owned-requires g c = rw (c.in_ok-path.ensures, c.cwd.ensures) refl

pub returns : goal.returns
unfolding join_by nearest_manifest_by
returns g c =
    let nearest = rw (c.in_ok-path.ensures, c.cwd.ensures) at c.in_ok-file.ensures in
    let owner = sym (rw (c.in_ok-path.ensures, c.cwd.ensures, c.in-Some-3.is) at c.in_ok-owner.ensures) in
    some_row c.args.known.now.project.now _ _ _ (sym c.in-Some.ensures)
    (row_then (manifest_in_by c.args.known.now.known.now c.args.known.now.project.now _) _ nearest c.in-Some-2.is
    (after_row _ c.in_ok-manifest.ensures.asks
    (some_row c.args.known.now.project.now _ _ _ owner c.join_owned.ensures)))
