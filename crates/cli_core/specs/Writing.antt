-- What a text that wasn't written whole leaves.
use Rattle.std.specs.Prelude.{ℕ, List, take, Option}
use Rattle.cli_core.specs.Streams.{Appends}

-- a front of the text was written
pub record AppendsFront (text : List ℕ) (before now : Option (List ℕ)) : Type 0 where
  pub written : ℕ
  pub appended : Appends (take written text) before now
