use Rattle.pnp_core.proofs.VirtualPaths.{through-here, through-past}
use Rattle.pnp_core.proofs.virtual_path.through_archive.Goals as goal

pub loop-index-preserved : goal.loop-index-preserved
loop-index-preserved c = through-past c.args.segments.now c.loop-index.index _ c.loop-index-test.true
    (rw c.is_archive.ensures at c.if-is_archive.false) c.loop-index.invariant

pub returns-then-is_archive-clause-through : goal.returns-then-is_archive-clause-through
returns-then-is_archive-clause-through c = through-here c.args.segments.now c.loop-index.index _ c.loop-index-test.true
    (rw c.is_archive.ensures at c.if-is_archive.true) c.loop-index.invariant
