-- How far a text is read without a refusal.
use Rattle.std.specs.Prelude.{◌≡◌, ℕ, ◌<◌, List, length, take, drop, slice_index, Some, Result, Ok, Err, true, false}
use Rattle.es_pattern.specs.declared.error.PatternError.{PatternError}
use Rattle.es_pattern.specs.declared.error.PatternError.TheVariants.{Syntax, Unsupported, CountTooLarge, NoMemory}
use Rattle.es_pattern.specs.declared.mode.Mode.{Mode}
use Rattle.es_pattern.specs.Reading.{Reading, reads, start, overcounts_at}
use Rattle.es_pattern.specs.Refusals.{is_unsupported, is_too_deep}

-- at none of the first characters something is refused whatever the grammar says
pub record PassesBefore (text : List ℕ) (p : ℕ) : Type 0 where
  pub each : (q : ℕ) → q < p → (read : Reading) → reads (take q text) start ≡ Some read
      → (is_unsupported read.mode (drop q text) ≡ false)
      × (is_too_deep (length read.groups) read.mode (drop q text) ≡ false)
      × (overcounts_at (slice_index text q) read ≡ false)

-- whether what follows is refused whatever the grammar says: a form that isn't supported first, then a group too deep
abbrev pub Refuses : ℕ → Mode → List ℕ → ℕ → Result (Unit {0}) PatternError → Type 0
Refuses groups mode rest place (Ok x) = (is_unsupported mode rest ≡ false) × (is_too_deep groups mode rest ≡ false)
Refuses groups mode rest place (Err (Syntax p)) = ⊥
Refuses groups mode rest place (Err (Unsupported p)) = (p ≡ place) × (is_unsupported mode rest ≡ true)
Refuses groups mode rest place (Err (CountTooLarge p)) =
    (p ≡ place) × (is_unsupported mode rest ≡ false) × (is_too_deep groups mode rest ≡ true)
Refuses groups mode rest place (Err NoMemory) = ⊥
