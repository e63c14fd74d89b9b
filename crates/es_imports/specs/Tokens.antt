-- The piece at a text's front, under a goal: white space, a comment or a token, as in ECMA-262's lexical grammar.
use Prim.Native.Char.{code}
use Rattle.std.specs.Prelude.{
  ℕ,
  ◌+◌,
  ◌==◌,
  ◌&&◌,
  ◌||◌,
  Bool,
  nat_eq,
  nat_lt,
  if◌then◌else◌,
  List,
  [],
  ◌∷◌,
  codes,
  Result,
  Ok,
  Err,
}
use Rattle.std.specs.List.{starts_with}
use Rattle.es_imports.specs.declared.piece.Kind.TheVariants as kinds
use Rattle.es_imports.specs.declared.piece.Piece.{Piece}
use Rattle.es_imports.specs.declared.piece.Goal.{Goal}
use Rattle.es_imports.specs.declared.piece.Within.{Within}
use Rattle.es_imports.specs.declared.piece.Within.TheVariants as within
use Rattle.es_imports.specs.declared.part.Part.TheVariants as parts
use Rattle.es_imports.specs.declared.refusal.Cause.{Cause}
use Rattle.es_imports.specs.declared.refusal.Cause.TheVariants as causes
use Rattle.es_imports.specs.Space.{space_part}
use Rattle.es_imports.specs.Parts.{name_part}
use Rattle.es_imports.specs.Runs.{run}
use Rattle.es_imports.specs.Literals.{
  piece,
  line_comment,
  block_comment,
  string_literal,
  template_from,
  regular_expression,
}
use Rattle.es_imports.specs.Elements.{child_at, tag_at}
use Rattle.es_imports.specs.Numbers.{number_len}
use Rattle.es_imports.specs.Punctuators.{punctuator_len}

-- a comment that ends with its line: its mark is `//`, `<!--`, or, where no token stands before it in the line, `-->`
abbrev pub begins_line_comment : Goal → List ℕ → Bool
begins_line_comment goal text =
    starts_with nat_eq text (codes "//") || starts_with nat_eq text (codes "<!--") || goal.begins_line
    && starts_with nat_eq text (codes "-->")

-- a punctuator, or the cause against a character that begins no token
abbrev pub punctuator : List ℕ → Result Piece Cause
punctuator text = if punctuator_len text == 0 then Err causes.Character
    else Ok (piece kinds.Punctuator (punctuator_len text))

-- behind `#`: a name
abbrev pub private_name : List ℕ → Result Piece Cause
private_name rest = if run name_part rest == 0 then Err causes.Character
    else Ok (piece kinds.PrivateName (run name_part rest + 1))

-- a slash with what stands behind it: a division, where the goal says so, and else a regular expression
abbrev pub division_at : Goal → List ℕ → List ℕ → Result Piece Cause
division_at goal text rest = if goal.divides then punctuator text else regular_expression rest

-- a slash with what stands behind it, where a comment may begin
abbrev pub slash_at : Goal → List ℕ → List ℕ → Result Piece Cause
slash_at goal text [] = division_at goal text []
slash_at goal text (c ∷ cs) = if c == code "*" then block_comment cs else division_at goal text (c ∷ cs)

-- a piece that begins with a mark: a comment, a string, a template, a regular expression, a private name, a punctuator
abbrev pub marked_at : Goal → List ℕ → Result Piece Cause
marked_at goal [] = Err causes.Character
marked_at goal (c ∷ cs) =
    if begins_line_comment goal (c ∷ cs) then Ok (line_comment cs)
    else if c == code "\"" then string_literal parts.DoubleQuoted c cs
    else if c == code "'" then string_literal parts.SingleQuoted c cs
    else if c == code "`" then template_from kinds.Template kinds.TemplateHead cs
    else if c == code "}" && goal.in_template then template_from kinds.TemplateTail kinds.TemplateMiddle cs
    else if c == code "/" then slash_at goal (c ∷ cs) cs
    else if c == code "#" then private_name cs
    else punctuator (c ∷ cs)

-- the piece at the front of code: white space, a number, a name, or what a mark begins
abbrev pub code_at : Goal → List ℕ → Result Piece Cause
code_at goal text =
    if nat_lt 0 (run space_part text) then Ok (piece kinds.WhiteSpace (run space_part text))
    else if nat_lt 0 (number_len text) then Ok (piece kinds.Number (number_len text))
    else if nat_lt 0 (run name_part text) then Ok (piece kinds.Name (run name_part text))
    else marked_at goal text

-- the piece at the front, in code or within an element
abbrev pub piece_within : Within → Goal → List ℕ → Result Piece Cause
piece_within within.Code goal text = code_at goal text
piece_within within.Tag goal text = tag_at text
piece_within within.Children goal text = child_at text

-- the piece at the front
abbrev pub piece_at : Goal → List ℕ → Result Piece Cause
piece_at goal text = piece_within goal.within goal text
