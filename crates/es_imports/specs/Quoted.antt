-- A part of a text that begins and ends with a byte of ASCII, as with quotes. Contracts of private functions
-- alone cite it.
use Rattle.std.specs.Prelude.{ℕ, ◌+◌, ◌-◌, ◌<◌, ◌≤◌, List, length, slice_index}

pub record IsQuoted (text : List ℕ) (place len : ℕ) : Type 0 where
  pub some : 2 ≤ len
  pub within : place + len ≤ length text
  pub first : slice_index text place < 128
  pub last : slice_index text (place + len - 1) < 128
