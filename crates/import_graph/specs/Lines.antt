-- What a file of JavaScript imports, told from its lines alone. Texts are lists of bytes.
use Prim.Native.Char.{code}
use Rattle.std.specs.Prelude.{
  ℕ,
  ◌==◌,
  ◌||◌,
  Bool,
  nat_eq,
  if◌then◌else◌,
  List,
  drop,
  codes,
  Option,
  Some,
  None,
  option_and_then,
}
use Rattle.std.specs.List.{after_last, before_last, filter_map, list_any, prefix_len, slice_split, starts_with}
use Rattle.std.specs.Option.{option_or}
use Rattle.std.specs.Str.{is_utf8}

-- the lines of a text: each ends at a line feed or at the end of the text
abbrev pub lines_of : List ℕ → List (List ℕ)
lines_of text = slice_split (λ b. b == code "\n") text

-- a space or a tab
abbrev pub is_blank : ℕ → Bool
is_blank b = b == code " " || b == code "\t"

-- a line without the blanks in front
abbrev pub past_blanks : List ℕ → List ℕ
past_blanks line = drop (prefix_len is_blank line) line

-- a text begins with one of the three words that stand in front of what is imported
abbrev pub begins_import : List ℕ → Bool
begins_import text = starts_with nat_eq text (codes "import ") || starts_with nat_eq text (codes "export ")
    || starts_with nat_eq text (codes "} from ")

-- the byte is a mark, which is a quote or an apostrophe
abbrev pub is_mark : ℕ → ℕ → Bool
is_mark mark b = b == mark

-- what stands behind the last of a mark, where there is one
abbrev pub behind_last : ℕ → List ℕ → Option (List ℕ)
behind_last mark text = if list_any (is_mark mark) text then Some (after_last (is_mark mark) text) else None

-- what stands between the last two of a mark, where the line has two at least
abbrev pub between_last : ℕ → List ℕ → Option (List ℕ)
between_last mark line = behind_last mark (before_last (is_mark mark) line)

-- what stands between the last two quotes of a line, or else between its last two apostrophes
abbrev pub quoted : List ℕ → Option (List ℕ)
quoted line = option_or (between_last (code "\"") line) (between_last (code "'") line)

-- bytes that are a text, which is UTF-8
abbrev pub as_text : List ℕ → Option (List ℕ)
as_text bytes = if is_utf8 bytes then Some bytes else None

-- what a line imports: a line that doesn't begin so imports nothing, and neither does one with no text between two
-- marks
abbrev pub import_of : List ℕ → Option (List ℕ)
import_of line = if begins_import (past_blanks line) then option_and_then as_text (quoted line) else None

-- what a text imports, in the order of its lines
unfoldable pub imports_of : List ℕ → List (List ℕ)
imports_of text = filter_map import_of (lines_of text)
