use Rattle.std.proofs.Common.{◌≡◌, vec_len}
use Rattle.pnp_core.specs.Relocated.{changed, placed}
use Rattle.pnp_core.proofs.initialize.place.Given as goal

-- what is left changes the rest
abbrev pub invariant-loop-location : goal.invariant-loop-location
invariant-loop-location l =
    changed placed l.references.entries l.locations.items ≡ changed placed l.fn.references.entries l.fn.locations.items

abbrev pub decreases-loop-location : goal.decreases-loop-location
decreases-loop-location l = vec_len l.locations
