-- What escapes stand for, as in ECMAScript (ECMA-262, CharacterClassEscape and CharacterEscape).
use Prim.Native.Char.{code}
use Rattle.std.specs.Prelude.{
  ℕ,
  ◌+◌,
  ◌-◌,
  ◌&&◌,
  ◌==◌,
  Bool,
  nat_le,
  nat_lt,
  List,
  [],
  ◌∷◌,
  Option,
  Some,
  None,
  if◌then◌else◌,
}
pub use Rattle.std.specs.Char.{is_ascii_digit, is_ascii_punctuation}
use Rattle.std.specs.Char.{digit_value}
use Rattle.es_pattern.specs.Tree.{CharRange}

-- the characters from the one to the other
abbrev pub range : ℕ → ℕ → CharRange
range first last = record { first = first; last = last }

-- the characters in none of the ranges, which are given in order
abbrev pub complement_from : ℕ → List CharRange → List CharRange
complement_from low [] = range low 0x10ffff ∷ []
complement_from low (r ∷ rs) = range low (r.first - 1) ∷ complement_from (r.last + 1) rs

-- all characters but those of the ranges
abbrev pub complement : List CharRange → List CharRange
complement ranges = complement_from 0 ranges

-- the digits of ASCII
abbrev pub digits : List CharRange
digits = range (code "0") (code "9") ∷ []

-- the letters and digits of ASCII, and `_`
abbrev pub word_chars : List CharRange
word_chars = range (code "0") (code "9") ∷ range (code "A") (code "Z") ∷ range (code "_") (code "_") ∷ range (code "a")
    (code "z") ∷ []

-- white space and line ends (WhiteSpace and LineTerminator), by their code points in Unicode
abbrev pub spaces : List CharRange
spaces = range 0x9 0xd ∷ range 0x20 0x20 ∷ range 0xa0 0xa0 ∷ range 0x1680 0x1680 ∷ range 0x2000 0x200a ∷ range 0x2028
    0x2029 ∷ range 0x202f 0x202f ∷ range 0x205f 0x205f ∷ range 0x3000 0x3000 ∷ range 0xfeff 0xfeff ∷ []

-- the set of characters that an escape stands for, by its letter: those of `\d`, `\w` and `\s`, and their complements
-- by the letter in upper case
abbrev pub set_of : ℕ → Option (List CharRange)
set_of letter =
    if letter == code "d" then Some digits
    else if letter == code "D" then Some (complement digits)
    else if letter == code "w" then Some word_chars
    else if letter == code "W" then Some (complement word_chars)
    else if letter == code "s" then Some spaces
    else if letter == code "S" then Some (complement spaces)
    else None

-- the character that an escape stands for, by its letter: tab, line feed, vertical tab, form feed and carriage return,
-- and ASCII punctuation for itself
abbrev pub escaped : ℕ → Option ℕ
escaped letter =
    if letter == code "t" then Some (code "\t")
    else if letter == code "n" then Some (code "\n")
    else if letter == code "v" then Some (code "\u{b}")
    else if letter == code "f" then Some (code "\u{c}")
    else if letter == code "r" then Some (code "\r")
    else if is_ascii_punctuation letter then Some letter
    else None

-- the value of a hexadecimal digit, of either case
abbrev pub hex_value : ℕ → Option ℕ
hex_value c = if nat_lt (digit_value c) 16 then Some (digit_value c) else None

-- half of a pair of UTF-16, which is no character
abbrev pub is_surrogate : ℕ → Bool
is_surrogate c = nat_le 0xd800 c && nat_le c 0xdfff
