use Rattle.pnp_core.proofs.VirtualPaths.{before-here, before-archive, before-past}
use Rattle.pnp_core.proofs.virtual_path.before_mark.Goals as goal

pub returns-then-is_archive-clause-before : goal.returns-then-is_archive-clause-before
returns-then-is_archive-clause-before c =
    before-archive c.args.segments.now c.loop-index.index _ c.loop-index-test.true (rw c.eq.ensures at c.if-eq.false)
    (rw c.is_archive.ensures at c.if-is_archive.true) c.loop-index.invariant

pub loop-index-preserved : goal.loop-index-preserved
loop-index-preserved c =
    before-past c.args.segments.now c.loop-index.index _ c.loop-index-test.true (rw c.eq.ensures at c.if-eq.false)
    (rw c.is_archive.ensures at c.if-is_archive.false) c.loop-index.invariant

pub returns-then-eq-clause-before : goal.returns-then-eq-clause-before
returns-then-eq-clause-before c = before-here c.args.segments.now c.loop-index.index _ c.loop-index-test.true
    (rw c.eq.ensures at c.if-eq.true) c.loop-index.invariant
