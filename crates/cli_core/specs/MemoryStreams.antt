-- What the sources and sinks in memory are seen as.
use Rattle.std.specs.Prelude.{◌==◌, ℕ, Bool, List}
use Rattle.std.specs.List.{list_any}

-- bytes to be read, and the numbers of the calls that are faults
pub record FailingReads : Type 0 where
  pub left : List ℕ
  pub fail_at : List ℕ
  pub calls : ℕ
  pub faults : ℕ

-- what stands in a room of so many bytes
pub record Room : Type 0 where
  pub written : List ℕ
  pub room : ℕ

-- a room that counts the writes that found it full
pub record CountingRoom : Type 0 where
  pub written : List ℕ
  pub room : ℕ
  pub faults : ℕ

-- a room, and the numbers of the calls that are faults
pub record FailingRoom : Type 0 where
  pub written : List ℕ
  pub room : ℕ
  pub fail_at : List ℕ
  pub calls : ℕ
  pub faults : ℕ

-- whether a call's number is in the list
abbrev pub is_listed : List ℕ → ℕ → Bool
is_listed numbers n = list_any (λ k. k == n) numbers
