-- Comments, strings, templates and regular expressions at a text's front, by what stands behind their opening marks.
use Prim.Native.Char.{code}
use Rattle.std.specs.Prelude.{ℕ, ◌+◌, ◌==◌, ◌||◌, nat_eq, if◌then◌else◌, List, [], ◌∷◌, drop, codes, Result, Ok, Err}
use Rattle.std.specs.List.{starts_with}
use Rattle.es_imports.specs.declared.piece.Kind.{Kind}
use Rattle.es_imports.specs.declared.piece.Kind.TheVariants as kinds
use Rattle.es_imports.specs.declared.piece.Piece.{Piece}
use Rattle.es_imports.specs.declared.part.Part.{Part}
use Rattle.es_imports.specs.declared.refusal.Cause.{Cause}
use Rattle.es_imports.specs.declared.refusal.Cause.TheVariants as causes
use Rattle.es_imports.specs.Space.{begins_line_end}
use Rattle.es_imports.specs.Parts.{
  block_part,
  class_part,
  line_part,
  name_part,
  part_len,
  pattern_escape_len,
  template_part,
}
use Rattle.es_imports.specs.Runs.{run}

-- a piece of that kind, which takes so many bytes
abbrev pub piece : Kind → ℕ → Piece
piece kind len = record { kind = kind; len = len }

-- behind the first byte of its mark: up to the end of the line
abbrev pub line_comment : List ℕ → Piece
line_comment text = piece kinds.Comment (run line_part text + 1)

-- behind `/*`: up to the first `*/`
abbrev pub block_comment : List ℕ → Result Piece Cause
block_comment text =
    if starts_with nat_eq (drop (run block_part text) text) (codes "*/")
    then Ok (piece kinds.Comment (run block_part text + 4)) else Err causes.Comment

-- behind a quote: characters and escapes up to the same quote, on one line
abbrev pub string_literal : Part → ℕ → List ℕ → Result Piece Cause
string_literal part quote text =
    if starts_with nat_eq (drop (run (part_len part) text) text) (quote ∷ [])
    then Ok (piece kinds.StringLiteral (run (part_len part) text + 2)) else Err causes.StringLiteral

-- behind a mark: characters and escapes up to the template's end, or up to `${`
abbrev pub template_from : Kind → Kind → List ℕ → Result Piece Cause
template_from whole opening text =
    if starts_with nat_eq (drop (run template_part text) text) (codes "`")
    then Ok (piece whole (run template_part text + 2))
    else if starts_with nat_eq (drop (run template_part text) text) (codes "${")
    then Ok (piece opening (run template_part text + 3))
    else Err causes.Template

-- behind `[`: characters and escapes up to `]`; 0 where it doesn't end on its line
abbrev pub class_len : List ℕ → ℕ
class_len text = if starts_with nat_eq (drop (run class_part text) text) (codes "]")
    then run class_part text + 2 else 0

-- a character of a regular expression, an escape, or a class, in which a slash is a character
abbrev pub pattern_part : List ℕ → ℕ
pattern_part [] = 0
pattern_part (c ∷ cs) =
    if c == code "\\" then pattern_escape_len cs
    else if c == code "[" then class_len cs
    else if c == code "/" || begins_line_end (c ∷ cs) then 0 else 1

-- behind the slash and flags: the flags are a run of a name's characters
abbrev pub with_flags : ℕ → List ℕ → Result Piece Cause
with_flags inner [] = Err causes.RegularExpression
with_flags inner (c ∷ flags) =
    if c == code "/" then Ok (piece kinds.RegularExpression (inner + 2 + run name_part flags))
    else Err causes.RegularExpression

-- behind `/`: up to the next slash, on one line, with flags behind it
abbrev pub regular_expression : List ℕ → Result Piece Cause
regular_expression text = with_flags (run pattern_part text) (drop (run pattern_part text) text)
