use Rattle.std.proofs.Common.{◌≡◌, ◌+◌, drop}
use Rattle.pnp_core.specs.VirtualPath.{through_archive}
use Rattle.pnp_core.specs.Segments.{texts}
use Rattle.pnp_core.proofs.virtual_path.through_archive.Given as goal

-- the segments so far are counted
abbrev pub invariant-loop-index : goal.invariant-loop-index
invariant-loop-index l =
    through_archive (texts l.segments) ≡ l.index + through_archive (drop l.index (texts l.segments))
