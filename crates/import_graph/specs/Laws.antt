-- What lines import, told by what stands in them, for all bytes.
use Prim.Native.Char.{code}
use Rattle.std.specs.Prelude.{◌≡◌, ◌↔◌, ◌⊎◌, ℕ, true, false, List, ◌∷◌, ◌++◌, codes, Some}
use Rattle.std.specs.List.{list_any}
use Rattle.std.specs.Str.{IsUtf8}
use Rattle.import_graph.specs.Lines.{begins_import, between_last, import_of, imports_of, is_mark, past_blanks}

-- a text stands in a line between two of a mark, which stands neither in the text nor behind the second one
pub record StandsBetween (mark : ℕ) (line text : List ℕ) : Type 0 where
  pub front : List ℕ
  pub behind : List ℕ
  pub whole : line ≡ front ++ (mark ∷ (text ++ (mark ∷ behind)))
  pub in_text : list_any (is_mark mark) text ≡ false
  pub in_behind : list_any (is_mark mark) behind ≡ false

-- what is taken from a line by a mark is the one text that stands so
abbrev pub BetweenLastMarks : Type 0
BetweenLastMarks = (mark : ℕ) (line text : List ℕ) → (between_last mark line ≡ Some text) ↔ StandsBetween mark line text

-- a text stands between the last two quotes of a line, or between its last two apostrophes where nothing stands between
-- quotes
abbrev pub StandsQuoted : List ℕ → List ℕ → Type 0
StandsQuoted line text = StandsBetween (code "\"") line text
    ⊎ (((other : List ℕ) → StandsBetween (code "\"") line other → ⊥) × StandsBetween (code "'") line text)

-- a line imports a text exactly where it begins with one of the words behind its blanks, and the text is UTF-8 and
-- stands in it so
abbrev pub LineImports : Type 0
LineImports = (line text : List ℕ) → (import_of line ≡ Some text) ↔
    ((begins_import (past_blanks line) ≡ true) × IsUtf8 text × StandsQuoted line text)

-- two texts with a line feed between them import what the first imports, and then what the second does
abbrev pub LinesImportInTurn : Type 0
LinesImportInTurn =
    (first second : List ℕ) → imports_of (first ++ (codes "\n" ++ second)) ≡ imports_of first ++ imports_of second
