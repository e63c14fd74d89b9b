-- The parts that names, strings, templates, comments and classes are runs of: how many bytes the part at a
-- text's front takes, and 0 where none is.
use Prim.Native.Char.{code}
use Rattle.std.specs.Prelude.{
  ℕ,
  ◌+◌,
  Bool,
  false,
  ◌==◌,
  ◌&&◌,
  ◌||◌,
  nat_eq,
  nat_lt,
  nat_le,
  if◌then◌else◌,
  List,
  [],
  ◌∷◌,
  drop,
  codes,
}
use Rattle.std.specs.Char.{is_ascii_digit, is_ascii_hexdigit}
use Rattle.std.specs.List.{prefix_len, starts_with}
use Rattle.es_imports.specs.declared.part.Part.{Part}
use Rattle.es_imports.specs.declared.part.Part.TheVariants as parts
use Rattle.es_imports.specs.Space.{begins_line_end, space_part, wide_space_len}

-- a letter, a digit, `$` or `_`
abbrev pub is_ascii_name : ℕ → Bool
is_ascii_name c = nat_le (code "a") c && nat_le c (code "z") || nat_le (code "A") c && nat_le c (code "Z")
    || nat_le (code "0") c && nat_le c (code "9") || c == code "$" || c == code "_"

-- a hexadecimal digit of either case
abbrev pub is_hex : ℕ → Bool
is_hex c = is_ascii_hexdigit c

-- behind `\u`: four hexadecimal digits
abbrev pub begins_four_hex : List ℕ → Bool
begins_four_hex [] = false
begins_four_hex (a ∷ []) = false
begins_four_hex (a ∷ b ∷ []) = false
begins_four_hex (a ∷ b ∷ c ∷ []) = false
begins_four_hex (a ∷ b ∷ c ∷ d ∷ rest) = is_hex a && is_hex b && is_hex c && is_hex d

-- behind `\u{`: one hexadecimal digit or more, and the closing brace
abbrev pub braced_escape_len : List ℕ → ℕ
braced_escape_len text =
    if nat_lt 0 (prefix_len is_hex text) && starts_with nat_eq (drop (prefix_len is_hex text) text) (codes "}")
    then prefix_len is_hex text + 4 else 0

-- an escape of a name, by what stands behind its backslash: `u` with four hexadecimal digits, or with some
-- between braces
abbrev pub name_escape_len : List ℕ → ℕ
name_escape_len [] = 0
name_escape_len (u ∷ []) = 0
name_escape_len (u ∷ a ∷ cs) =
    if u == code "u" && a == code "{" then braced_escape_len cs
    else if u == code "u" && begins_four_hex (a ∷ cs) then 6 else 0

-- a character of a name, which is a letter, a digit, `$`, `_` or any beyond ASCII that isn't white space; or an
-- escape for one
abbrev pub name_part : List ℕ → ℕ
name_part [] = 0
name_part (c ∷ cs) =
    if nat_lt c 0x80 then (if is_ascii_name c then 1 else if c == code "\\" then name_escape_len cs else 0)
    else if wide_space_len (c ∷ cs) == 0 then 1 else 0

-- a digit, or a `_` between digits
abbrev pub digit_part : List ℕ → ℕ
digit_part [] = 0
digit_part (c ∷ cs) = if is_ascii_digit c || c == code "_" then 1 else 0

-- an escape of a string or a template, by what stands behind its backslash; a line that is continued over
-- `\r\n` is one escape
abbrev pub escaped_part : List ℕ → ℕ
escaped_part [] = 0
escaped_part (c ∷ cs) = if starts_with nat_eq (c ∷ cs) (codes "\r\n") then 3 else 2

-- a character of a string in such quotes, which is on one line, or an escape
abbrev pub string_part : ℕ → List ℕ → ℕ
string_part quote [] = 0
string_part quote (c ∷ cs) =
    if c == code "\\" then escaped_part cs else if c == quote || c == code "\n" || c == code "\r" then 0 else 1

-- a character of a template, or an escape; `${` begins a substitution
abbrev pub template_part : List ℕ → ℕ
template_part [] = 0
template_part (c ∷ cs) =
    if c == code "\\" then escaped_part cs else if c == code "`" || c == code "$"
    && starts_with nat_eq cs (codes "{") then 0 else 1

-- a character of a comment that ends with its line
abbrev pub line_part : List ℕ → ℕ
line_part [] = 0
line_part (c ∷ cs) = if begins_line_end (c ∷ cs) then 0 else 1

-- a character of a comment that ends with `*/`
abbrev pub block_part : List ℕ → ℕ
block_part [] = 0
block_part (c ∷ cs) = if starts_with nat_eq (c ∷ cs) (codes "*/") then 0 else 1

-- an escape of a regular expression, by what stands behind its backslash: no line end
abbrev pub pattern_escape_len : List ℕ → ℕ
pattern_escape_len [] = 0
pattern_escape_len (c ∷ cs) = if begins_line_end (c ∷ cs) then 0 else 2

-- a character of a class of a regular expression, which ends at `]`, or an escape
abbrev pub class_part : List ℕ → ℕ
class_part [] = 0
class_part (c ∷ cs) = if c == code "\\" then pattern_escape_len cs else if c == code "]"
    || begins_line_end (c ∷ cs) then 0 else 1

-- a character of the text between the tags of an element
abbrev pub child_part : List ℕ → ℕ
child_part [] = 0
child_part (c ∷ cs) = if c == code "<" || c == code "{" then 0 else 1

-- a character of a name in a tag, which may have dashes
abbrev pub tag_name_part : List ℕ → ℕ
tag_name_part [] = 0
tag_name_part (c ∷ cs) = if c == code "-" then 1 else name_part (c ∷ cs)

-- a character of an attribute's string, in which nothing is an escape
abbrev pub attribute_part : ℕ → List ℕ → ℕ
attribute_part quote [] = 0
attribute_part quote (c ∷ cs) = if c == quote then 0 else 1

-- each kind of part
abbrev pub part_len : Part → List ℕ → ℕ
part_len parts.Space text = space_part text
part_len parts.Name text = name_part text
part_len parts.Digit text = digit_part text
part_len parts.DoubleQuoted text = string_part (code "\"") text
part_len parts.SingleQuoted text = string_part (code "'") text
part_len parts.Template text = template_part text
part_len parts.Line text = line_part text
part_len parts.Block text = block_part text
part_len parts.Class text = class_part text
part_len parts.Child text = child_part text
part_len parts.TagName text = tag_name_part text
part_len parts.AttributeDouble text = attribute_part (code "\"") text
part_len parts.AttributeSingle text = attribute_part (code "'") text
