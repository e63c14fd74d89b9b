use Rattle.std.proofs.Common.{◌≡◌, ℕ, List, take, bytes_eq}
use Rattle.std.specs.HashMap.{get_by}
use Rattle.lock_checks.specs.Places.{first_place}
use Rattle.lock_checks.proofs.places.places_of_resolutions.Given as goal

-- the places among the entries so far
abbrev pub invariant-loop-place : goal.invariant-loop-place
invariant-loop-place l = (text : List ℕ) → get_by (λ k. bytes_eq text k.now) l.places ≡ first_place
    (λ e. bytes_eq text e.resolved) (take l.place l.entries)
