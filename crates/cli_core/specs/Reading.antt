-- What reading a source to its end leaves.
use Rattle.std.specs.Prelude.{◌≡◌, ℕ, ◌≤◌, Bool, true, false, List, drop, length, Option, Some, Result, Ok, Err}
use Rattle.cli_core.specs.declared.reading.ReadAllError.{ReadAllError}
use Rattle.cli_core.specs.declared.reading.ReadAllError.TheVariants.{Fault, TooLong, NoMemory}

-- the source refused a read
abbrev pub is_read_fault : {A : Type 0} → Result A ReadAllError → Bool
is_read_fault (Ok a) = false
is_read_fault (Err Fault) = true
is_read_fault (Err TooLong) = false
is_read_fault (Err NoMemory) = false

-- at most so many of the bytes were taken, from the front
pub record LeavesEnd (most : ℕ) (bytes : List ℕ) (left : Option (List ℕ)) : Type 0 where
  pub taken : ℕ
  pub others : left ≡ Some (drop taken bytes)
  pub within : taken ≤ length bytes
  pub bounded : taken ≤ most
