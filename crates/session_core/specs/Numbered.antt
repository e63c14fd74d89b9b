-- Entries by numbers of their own.
use Rattle.std.specs.Prelude.{◌≡◌, ◌<◌, ◌^◌, ℕ, Bool, true, nat_eq, List, map, Some}
use Rattle.std.specs.List.{AllByRecursion, IsDistinct}
use Rattle.std.specs.Map.{lookup, keys_of}
use Rattle.session_core.specs.declared.latest.Entry.{Entry}
use Rattle.session_core.specs.Entries.{same_request}

-- the latest entries with their numbers, and how many there may be
pub record Latest : Type 0 where
  pub entries : List (ℕ × Entry)
  pub capacity : ℕ

abbrev pub entries_in : List (ℕ × Entry) → List Entry
entries_in es = map (λ e. e.1) es

-- the entries, the most recently used first
abbrev pub kept_in : Latest → List Entry
kept_in l = entries_in l.entries

-- the number is that of an entry that passes
pub record IsNumberOf (test : Entry → Bool) (es : List (ℕ × Entry)) (number : ℕ) : Type 0 where
  pub entry : Entry
  pub found : lookup (nat_eq number) es ≡ Some entry
  pub passes : test entry ≡ true

-- no two entries are of one request or have one number, and each number is below the next one
pub record IsNumbered (next : ℕ) (es : List (ℕ × Entry)) : Type 0 where
  pub apart : IsDistinct same_request (entries_in es)
  pub numbers : IsDistinct nat_eq (keys_of es)
  pub below : AllByRecursion (λ e. e.0 < next) es
  pub fits : next < 2 ^ 64
