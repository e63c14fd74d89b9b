use Rattle.std.proofs.Common.{◌≡◌, ◌+◌, drop, option_map}
use Rattle.pnp_core.specs.VirtualPath.{before_mark}
use Rattle.pnp_core.specs.Segments.{texts}
use Rattle.pnp_core.proofs.virtual_path.before_mark.Given as goal

-- the segments so far are counted
abbrev pub invariant-loop-index : goal.invariant-loop-index
invariant-loop-index l =
    before_mark (texts l.segments) ≡ option_map (λ k. l.index + k) (before_mark (drop l.index (texts l.segments)))
