use Rattle.std.proofs.Common.{◌≡◌, map, vec_len}
use Rattle.pnp_core.specs.Relocated.{changed, placed}
use Rattle.pnp_core.proofs.initialize.place_all.Given as goal

-- what is left changes the rest
abbrev pub invariant-loop-found : goal.invariant-loop-found
invariant-loop-found l =
    changed (changed placed) (map (λ named. (named.0, named.1.entries)) l.registry.entries)
    (map (λ found. found.items) l.locations.items)
    ≡ changed (changed placed) (map (λ named. (named.0, named.1.entries)) l.fn.registry.entries)
    (map (λ found. found.items) l.fn.locations.items)

abbrev pub decreases-loop-found : goal.decreases-loop-found
decreases-loop-found l = vec_len l.locations
