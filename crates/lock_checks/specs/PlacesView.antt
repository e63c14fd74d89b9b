-- What the index of a lock holds.
use Rattle.std.specs.Prelude.{◌≡◌, ◌&&◌, ℕ, List, bytes_eq}
use Rattle.std.specs.HashMap.{get_by}
use Rattle.lock_checks.specs.declared.lock.Lock.TheInside.{Inside}
use Rattle.lock_checks.specs.Places.{first_place, is_released_as}

-- By each text, the place of the first entry that is resolved to it; and by each name and version, that of the first
-- entry of a lock of version 1 that has both.
abbrev pub HoldsPlaces : Inside → Type 0
HoldsPlaces l =
    ((text : List ℕ) → get_by (λ k. bytes_eq text k.now) l.resolutions ≡ first_place (λ e. bytes_eq text e.resolved)
    l.file.entries)
    × ((name version : List ℕ) → get_by (λ k. bytes_eq name k.0.now && bytes_eq version k.1.now) l.releases ≡
    first_place (is_released_as l.file.version name version) l.file.entries)
