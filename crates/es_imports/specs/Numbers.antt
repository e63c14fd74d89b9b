-- Numbers at a text's front: NumericLiteral of ECMA-262.
use Prim.Native.Char.{code}
use Rattle.std.specs.Prelude.{
  ℕ,
  ◌+◌,
  ◌==◌,
  ◌&&◌,
  ◌||◌,
  Bool,
  false,
  not,
  nat_eq,
  if◌then◌else◌,
  List,
  [],
  ◌∷◌,
  drop,
  codes,
}
use Rattle.std.specs.Char.{is_ascii_digit}
use Rattle.std.specs.List.{starts_with}
use Rattle.es_imports.specs.Parts.{digit_part, name_part}
use Rattle.es_imports.specs.Runs.{run}

-- a digit, or a point with a digit behind it
abbrev pub begins_number : List ℕ → Bool
begins_number [] = false
begins_number (c ∷ []) = is_ascii_digit c
begins_number (c ∷ d ∷ cs) = if c == code "." then is_ascii_digit d else is_ascii_digit c

-- `0` with the letter of base 16, 8 or 2, of either case
abbrev pub begins_other_base : List ℕ → Bool
begins_other_base [] = false
begins_other_base (c ∷ []) = false
begins_other_base (c ∷ d ∷ cs) =
    c == code "0" && (d == code "x" || d == code "X" || d == code "o" || d == code "O" || d == code "b"
    || d == code "B")

-- a point with digits behind it, or nothing
abbrev pub fraction_len : List ℕ → ℕ
fraction_len [] = 0
fraction_len (c ∷ cs) = if c == code "." then 1 + run digit_part cs else 0

-- digits, and a point with digits behind it
abbrev pub decimal_len : List ℕ → ℕ
decimal_len text = run digit_part text + fraction_len (drop (run digit_part text) text)

-- `e` or `E`
abbrev pub is_exponent : ℕ → Bool
is_exponent c = c == code "e" || c == code "E"

-- the `e` of an exponent, with its sign, where a digit stands behind it; and else 0
abbrev pub exponent_mark_len : List ℕ → ℕ
exponent_mark_len [] = 0
exponent_mark_len (c ∷ []) = 0
exponent_mark_len (c ∷ d ∷ []) = if is_exponent c && is_ascii_digit d then 1 else 0
exponent_mark_len (c ∷ d ∷ e ∷ cs) =
    if is_exponent c && (d == code "+" || d == code "-") && is_ascii_digit e then 2 else if is_exponent c
    && is_ascii_digit d then 1 else 0

-- with the mark and the digits of an exponent; where none is, the digits of the number have ended, so nothing is added
abbrev pub with_exponent : List ℕ → ℕ → ℕ
with_exponent text len =
    len + exponent_mark_len (drop len text) + run digit_part (drop (exponent_mark_len (drop len text)) (drop len text))

-- with the suffix of a big integer
abbrev pub with_suffix : List ℕ → ℕ → ℕ
with_suffix text len = if starts_with nat_eq (drop len text) (codes "n") then len + 1 else len

-- how many bytes the number at the front takes: a decimal one, or one in another base, whose digits are a run
-- of a name's characters; 0 where none is
abbrev pub number_len : List ℕ → ℕ
number_len text = if not (begins_number text) then 0 else if begins_other_base text then run name_part text
    else with_suffix text (with_exponent text (decimal_len text))
