-- The tree of a pattern: what a regular expression of ECMAScript without flags says, without how it is written.
use Rattle.std.specs.Prelude.{ℕ, Bool, List, Option}
pub use Rattle.es_pattern.specs.declared.piece.CharRange.{CharRange}

-- what a pattern describes
pub data Tree : Type 0 where
  -- the empty part
  nothing : Tree
  -- one character: in one of the ranges, or, negated, in none of them
  one_of : (negated : Bool) → (ranges : List CharRange) → Tree
  -- the empty part at the text's start, and at its end
  text_start : Tree
  text_end : Tree
  -- the empty part where a word begins or ends, or, negated, where none does
  word_boundary : (negated : Bool) → Tree
  -- one part after the other
  sequence : Tree → Tree → Tree
  -- the one or the other
  choice : Tree → Tree → Tree
  -- one part after another, that many times
  repetition : (least : ℕ) → (most : Option ℕ) → Tree → Tree
  -- the empty part where something is spanned from there on, or, negated, where nothing is
  lookahead : (negated : Bool) → Tree → Tree
