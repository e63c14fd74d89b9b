-- What the two functions of texts and trees come to.
use Rattle.std.specs.Prelude.{◌≡◌, ◌↔◌, ℕ, IsTrue, List, Some, None}
use Rattle.es_pattern.specs.declared.error.PatternError.{PatternError}
use Rattle.es_pattern.specs.Tree.{Tree}
use Rattle.es_pattern.specs.Spans.{IsFound}
use Rattle.es_pattern.specs.Grammar.{IsPattern}
use Rattle.es_pattern.specs.Faults.{IsClear, IsFirstFault}
use Rattle.es_pattern.specs.Found.{is_found}
use Rattle.es_pattern.specs.Accepted.{pattern_of}

-- a tree is found exactly where it spans a part of the text
abbrev pub FoundTells : Type 0
FoundTells = (tree : Tree) (text : List ℕ) → IsTrue (is_found tree text) ↔ IsFound tree text

-- a text is a pattern exactly where the grammar gives it that tree and nothing in it is refused, and none exactly where
-- it has a first fault
pub record PatternTells : Type 0 where
  pub accepted :
      (text : List ℕ) (tree : Tree)
      → (pattern_of text ≡ Some tree) ↔ (IsPattern text tree × IsClear text)
  pub refused : (text : List ℕ) → (pattern_of text ≡ None) ↔ ((e : PatternError) × IsFirstFault text e)
