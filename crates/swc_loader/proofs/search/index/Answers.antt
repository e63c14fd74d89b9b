use Rattle.std.proofs.Common.{[], refl}
use Rattle.sugar_path.specs.Path.{has_no_slash}
use Rattle.tree_core.proofs.Asking.{asks_as, asks_done, asks_fails, leads_self, leads_as, leads_end}
use Rattle.swc_loader.proofs.Firsts.{with_names, leads_name, same_at, passes_at}
use Rattle.swc_loader.proofs.search.index.Goals as goal

pub loop-name-init : goal.loop-name-init
loop-name-init g c = rw c.index_names-name-items.ensures.list leads_self

pub first_with_ending-requires-clause-base : goal.first_with_ending-requires-clause-base
first_with_ending-requires-clause-base g c =
    passes_at has_no_slash _ _ _ c.loop-name-test.true c.index_names-name-items.ensures.slashes

pub returns-in_err-file : goal.returns-in_err-file
returns-in_err-file g c =
    let h = leads_name c.args.folder.now c.args.conventions.now.endings c.index_names-name-items.result.now
    c.loop-name.name-index _ c.loop-name.invariant c.loop-name-test.true
    (same_at c.index_names-name-items.result.now c.loop-name.name-index (record { ref_ptr = (0, 0); now = [] })
    c.loop-name-test.true) in
    h.to (asks_fails _ _ c.from_residual.ensures.1 (rw c.endings.ensures.list at c.in_err-file.ensures))

pub returns-in-Some : goal.returns-in-Some
returns-in-Some g c =
    let h = leads_name c.args.folder.now c.args.conventions.now.endings c.index_names-name-items.result.now
    c.loop-name.name-index _ c.loop-name.invariant c.loop-name-test.true
    (same_at c.index_names-name-items.result.now c.loop-name.name-index (record { ref_ptr = (0, 0); now = [] })
    c.loop-name-test.true) in
    h.to (asks_as _ (rw c.endings.ensures.list at c.in_ok-file.ensures) c.in-Some.is (asks_done refl))

pub loop-name-preserved : goal.loop-name-preserved
loop-name-preserved g c =
    let h = leads_name c.args.folder.now c.args.conventions.now.endings c.index_names-name-items.result.now
    c.loop-name.name-index _ c.loop-name.invariant c.loop-name-test.true
    (same_at c.index_names-name-items.result.now c.loop-name.name-index (record { ref_ptr = (0, 0); now = [] })
    c.loop-name-test.true) in
    leads_as _ h (rw c.endings.ensures.list at c.in_ok-file.ensures) c.in_default.is

pub returns : goal.returns
returns g c =
    let h = leads_end (with_names c.args.folder.now c.args.conventions.now.endings) _ _ c.loop-name.invariant
    c.loop-name-test.false in
    h.to (asks_done refl)
