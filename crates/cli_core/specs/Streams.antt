-- What contracts see of a source and a sink, and what a read and a write do to a stream's bytes and to its count of
-- faults.
use Rattle.std.specs.Prelude.{
  ◌≡◌,
  ◌==◌,
  ◌&&◌,
  ℕ,
  ◌≤◌,
  ◌<◌,
  nat_lt,
  Bool,
  true,
  false,
  List,
  [],
  ◌++◌,
  length,
  take,
  drop,
  Option,
  Some,
  Result,
  Ok,
  Err,
}
use Rattle.std.specs.Option.{ForSome}
use Rattle.tree_core.specs.Tree.{Rose}

-- a source: what is left to be read, where it tells that, and how often a read was refused, as a number that never
-- falls
pub record SourceState : Type 0 where
  pub left : Option (List ℕ)
  pub faults : ℕ

-- a sink: what was written, where it tells that, and how often a write was refused or took nothing of a piece, as a
-- number that never falls
pub record SinkState : Type 0 where
  pub written : Option (List ℕ)
  pub faults : ℕ

-- a count of faults after a call: where the call was a fault it rose, or stands at its last value; else it stayed
abbrev pub CountsFault : Bool → ℕ → ℕ → Type 0
CountsFault true before now = (before ≤ now) × Rose before now
CountsFault false before now = now ≡ before

-- the first n of the bytes that were left stand at the front of the buffer, and the others are left; none for a buffer
-- that isn't empty means the end
pub record Takes (n : ℕ) (buffer bytes : List ℕ) (left : Option (List ℕ)) : Type 0 where
  pub others : left ≡ Some (drop n bytes)
  pub front : take n buffer ≡ take n bytes
  pub within : n ≤ length bytes
  pub ends : n ≡ 0 → 0 < length buffer → bytes ≡ []

-- where a sink tells what was written, the piece stands behind it now
abbrev pub Appends : List ℕ → Option (List ℕ) → Option (List ℕ) → Type 0
Appends piece before now = ForSome before (λ bytes. now ≡ Some (bytes ++ piece))

-- a write took nothing of a piece that isn't empty
abbrev pub takes_nothing : List ℕ → ℕ → Bool
takes_nothing piece n = (n == 0) && nat_lt 0 (length piece)

-- a write is a fault of the sink where it is refused, or took nothing of a piece that isn't empty
abbrev pub is_fault_of_sink : {E : Type 0} → List ℕ → Result ℕ E → Bool
is_fault_of_sink piece (Ok n) = takes_nothing piece n
is_fault_of_sink piece (Err e) = true
