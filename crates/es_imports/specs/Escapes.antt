-- What the characters and escapes of a string or a template stand for (ECMA-262, SV and TV): characters and
-- units of UTF-16. Texts are lists of characters.
use Prim.Native.Char.{code}
use Rattle.std.specs.Prelude.{
  ℕ,
  zero,
  suc,
  ◌+◌,
  ◌-◌,
  ◌*◌,
  ◌==◌,
  ◌&&◌,
  ◌||◌,
  Bool,
  nat_eq,
  nat_le,
  nat_lt,
  if◌then◌else◌,
  List,
  [],
  ◌∷◌,
  ◌++◌,
  length,
  take,
  drop,
  Option,
  Some,
  None,
}
use Rattle.std.specs.Char.{digit_value, is_ascii_hexdigit}
use Rattle.std.specs.Char.Escape.{encode_utf16}
use Rattle.std.specs.List.{prefix_len, starts_with}
use Rattle.es_imports.specs.declared.escape.Meaning.{Meaning}

-- what a part stands for, if anything, and how many characters it takes
abbrev pub meaning : Option ℕ → ℕ → Meaning
meaning code len = record { code = code; len = len }

-- a line feed, a carriage return, U+2028 or U+2029
abbrev pub is_line_end : ℕ → Bool
is_line_end c = c == code "\n" || c == code "\r" || c == 0x2028 || c == 0x2029

-- an octal digit
abbrev pub is_octal : ℕ → Bool
is_octal c = nat_le (code "0") c && nat_le c (code "7")

-- the character that an escape by one letter stands for: backspace, tab, line feed, vertical tab, form feed and
-- carriage return, and another letter for itself
abbrev pub letter : ℕ → ℕ
letter c =
    if c == code "b" then 8
    else if c == code "t" then 9
    else if c == code "n" then 10
    else if c == code "v" then 11
    else if c == code "f" then 12
    else if c == code "r" then 13
    else c

-- the number of hexadecimal digits behind that number, if it is that of a character or of a unit
abbrev pub hex_from : ℕ → List ℕ → Option ℕ
hex_from number [] = Some number
hex_from number (c ∷ cs) =
    if nat_lt (digit_value c) 16 && nat_le (number * 16 + digit_value c) 0x10FFFF
    then hex_from (number * 16 + digit_value c) cs else None

-- the number of so many hexadecimal digits at the front
abbrev pub hex_in : ℕ → List ℕ → Option ℕ
hex_in count text = if nat_lt (length text) count then None else hex_from 0 (take count text)

-- an escape that spells a character and takes so many characters, or one that isn't well formed, which stands
-- for its letter
abbrev pub spelled : Option ℕ → ℕ → ℕ → Meaning
spelled (Some number) letter len = meaning (Some number) len
spelled None letter len = meaning (Some letter) 2

-- a hexadecimal digit of either case
abbrev pub is_hex : ℕ → Bool
is_hex c = is_ascii_hexdigit c

-- behind `u{`: hexadecimal digits, and the closing brace
abbrev pub braced : List ℕ → Meaning
braced text =
    if nat_lt 0 (prefix_len is_hex text) && starts_with nat_eq (drop (prefix_len is_hex text) text) (code "}" ∷ [])
    then spelled (hex_from 0 (take (prefix_len is_hex text) text)) (code "u") (prefix_len is_hex text + 4)
    else meaning (Some (code "u")) 2

-- behind `u`: four hexadecimal digits, or some between braces
abbrev pub unicode : List ℕ → Meaning
unicode [] = spelled (hex_in 4 []) (code "u") 6
unicode (c ∷ cs) = if c == code "{" then braced cs else spelled (hex_in 4 (c ∷ cs)) (code "u") 6

-- the value of a digit
abbrev pub digit : ℕ → ℕ
digit c = c - code "0"

-- behind the first of up to three octal digits, whose number is below 256
abbrev pub octal : ℕ → List ℕ → Meaning
octal first [] = meaning (Some (digit first)) 2
octal first (a ∷ []) = if is_octal a then meaning (Some (digit first * 8 + digit a)) 3
    else meaning (Some (digit first)) 2
octal first (a ∷ b ∷ cs) =
    if nat_lt (digit first) 4 && is_octal a && is_octal b
    then meaning (Some ((digit first * 8 + digit a) * 8 + digit b)) 4
    else if is_octal a then meaning (Some (digit first * 8 + digit a)) 3
    else meaning (Some (digit first)) 2

-- behind a backslash: a line that is continued stands for nothing
abbrev pub escape : List ℕ → Meaning
escape [] = meaning None 1
escape (c ∷ cs) =
    if c == code "\r" && starts_with nat_eq cs (code "\n" ∷ []) then meaning None 3
    else if c == code "u" then unicode cs
    else if c == code "x" then spelled (hex_in 2 cs) (code "x") 4
    else if is_line_end c then meaning None 2
    else if is_octal c then octal c cs
    else meaning (Some (letter c)) 2

-- the part at the front: an escape, or a character; a carriage return is a line feed, also with one behind it
abbrev pub part_at : List ℕ → Meaning
part_at [] = meaning None 0
part_at (c ∷ cs) =
    if c == code "\\" then escape cs
    else if c == code "\r"
    then (if starts_with nat_eq cs (code "\n" ∷ []) then meaning (Some 10) 2 else meaning (Some 10) 1)
    else meaning (Some c) 1

-- the units of what a part stands for
abbrev pub units_at : Option ℕ → List ℕ
units_at None = []
units_at (Some c) = encode_utf16 c

-- the units of at most so many parts
abbrev pub units_up_to : ℕ → List ℕ → List ℕ
units_up_to zero text = []
units_up_to (suc n) [] = []
units_up_to (suc n) (c ∷ cs) = units_at (part_at (c ∷ cs)).code ++ units_up_to n (drop (part_at (c ∷ cs)).len (c ∷ cs))

-- the units that a text between quotes or backquotes stands for: each part takes a character or more
unfoldable pub units_of : List ℕ → List ℕ
units_of text = units_up_to (length text) text
