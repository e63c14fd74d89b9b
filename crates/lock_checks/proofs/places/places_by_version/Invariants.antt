use Rattle.std.proofs.Common.{◌≡◌, ◌&&◌, ℕ, List, take, bytes_eq}
use Rattle.std.specs.HashMap.{get_by}
use Rattle.lock_checks.specs.Places.{first_place}
use Rattle.lock_checks.proofs.places.places_by_version.Given as goal

-- the places among the entries so far
abbrev pub invariant-loop-place : goal.invariant-loop-place
invariant-loop-place l = (name version : List ℕ)
    → get_by (λ k. bytes_eq name k.0.now && bytes_eq version k.1.now) l.places ≡ first_place
    (λ e. bytes_eq name e.name && bytes_eq version e.version) (take l.place l.entries)
