-- The piece at the front within an element of JSX: in one of its tags, or between these.
use Prim.Native.Char.{code}
use Rattle.std.specs.Prelude.{
  ℕ,
  ◌+◌,
  ◌==◌,
  Bool,
  nat_eq,
  nat_lt,
  if◌then◌else◌,
  List,
  [],
  ◌∷◌,
  drop,
  codes,
  Result,
  Ok,
  Err,
}
use Rattle.std.specs.Char.{char_set_contains}
use Rattle.std.specs.List.{starts_with}
use Rattle.es_imports.specs.declared.piece.Kind.TheVariants as kinds
use Rattle.es_imports.specs.declared.piece.Piece.{Piece}
use Rattle.es_imports.specs.declared.part.Part.{Part}
use Rattle.es_imports.specs.declared.part.Part.TheVariants as parts
use Rattle.es_imports.specs.declared.refusal.Cause.{Cause}
use Rattle.es_imports.specs.declared.refusal.Cause.TheVariants as causes
use Rattle.es_imports.specs.Space.{space_part}
use Rattle.es_imports.specs.Parts.{child_part, part_len, tag_name_part}
use Rattle.es_imports.specs.Runs.{run}
use Rattle.es_imports.specs.Literals.{piece, line_comment, block_comment}

-- how many bytes `<` or `</` takes, by what stands behind its first byte
abbrev pub opening_len : List ℕ → ℕ
opening_len text = if starts_with nat_eq text (codes "/") then 2 else 1

-- text between tags, behind its first byte: up to a tag or the brace of an expression
abbrev pub element_text : List ℕ → Piece
element_text text = piece kinds.ElementText (run child_part text + 1)

-- between tags: `<` or `</` of a tag, the brace of an expression, or text up to one of these
abbrev pub child_at : List ℕ → Result Piece Cause
child_at [] = Err causes.Character
child_at (c ∷ cs) =
    if c == code "<" then Ok (piece kinds.Punctuator (opening_len cs))
    else if c == code "{" then Ok (piece kinds.Punctuator 1)
    else Ok (element_text cs)

-- an attribute's string, behind its quote: up to the same quote
abbrev pub attribute_string : Part → List ℕ → List ℕ → Result Piece Cause
attribute_string part quote text =
    if starts_with nat_eq (drop (run (part_len part) text) text) quote
    then Ok (piece kinds.AttributeString (run (part_len part) text + 2)) else Err causes.StringLiteral

-- what a slash begins in a tag: its end `/>`, a comment, or else a punctuator
abbrev pub tag_slash : List ℕ → Result Piece Cause
tag_slash [] = Ok (piece kinds.Punctuator 1)
tag_slash (c ∷ cs) =
    if c == code ">" then Ok (piece kinds.Punctuator 2)
    else if c == code "*" then block_comment cs
    else if c == code "/" then Ok (line_comment (c ∷ cs))
    else Ok (piece kinds.Punctuator 1)

-- the marks of a tag
abbrev pub is_tag_mark : ℕ → Bool
is_tag_mark c = char_set_contains (codes "><{=.:") c

-- in a tag, by a mark
abbrev pub tag_mark_at : List ℕ → Result Piece Cause
tag_mark_at [] = Err causes.Character
tag_mark_at (c ∷ cs) =
    if c == code "\"" then attribute_string parts.AttributeDouble (codes "\"") cs
    else if c == code "'" then attribute_string parts.AttributeSingle (codes "'") cs
    else if c == code "/" then tag_slash cs
    else if is_tag_mark c then Ok (piece kinds.Punctuator 1)
    else Err causes.Character

-- in a tag: white space, a name, or what a mark begins
abbrev pub tag_at : List ℕ → Result Piece Cause
tag_at text =
    if nat_lt 0 (run space_part text) then Ok (piece kinds.WhiteSpace (run space_part text))
    else if nat_lt 0 (run tag_name_part text) then Ok (piece kinds.TagName (run tag_name_part text))
    else tag_mark_at text
