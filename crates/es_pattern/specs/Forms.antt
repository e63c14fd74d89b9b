-- The text that forms begin with which are refused: those of ECMAScript that aren't supported, and groups.
use Prim.Native.Char.{code}
use Rattle.std.specs.Prelude.{
  ℕ,
  ◌+◌,
  ◌*◌,
  ◌==◌,
  ◌&&◌,
  ◌||◌,
  Bool,
  false,
  nat_eq,
  nat_le,
  List,
  [],
  ◌∷◌,
  codes,
  Option,
  Some,
}
use Rattle.std.specs.List.{starts_with}
use Rattle.es_pattern.specs.Escapes.{hex_value, is_surrogate}

-- the values of four hexadecimal digits make a surrogate
abbrev pub make_surrogate : Option ℕ → Option ℕ → Option ℕ → Option ℕ → Bool
make_surrogate (Some a) (Some b) (Some c) (Some d) = is_surrogate (((a * 16 + b) * 16 + c) * 16 + d)
make_surrogate a b c d = false

-- four hexadecimal digits of a surrogate
abbrev pub begins_surrogate : List ℕ → Bool
begins_surrogate [] = false
begins_surrogate (a ∷ []) = false
begins_surrogate (a ∷ b ∷ []) = false
begins_surrogate (a ∷ b ∷ c ∷ []) = false
begins_surrogate (a ∷ b ∷ c ∷ d ∷ rest) = make_surrogate (hex_value a) (hex_value b) (hex_value c) (hex_value d)

-- `k`, `p`, `P`, `c`, and `1` to `9`
abbrev pub is_unsupported_letter : ℕ → Bool
is_unsupported_letter c = (c == code "k") || (c == code "p") || (c == code "P") || (c == code "c")
    || nat_le (code "1") c && nat_le c (code "9")

-- `\k`, `\p`, `\P`, `\c`, `\1` to `\9`, and `\u` of a surrogate
abbrev pub begins_unsupported_escape : List ℕ → Bool
begins_unsupported_escape [] = false
begins_unsupported_escape (a ∷ []) = false
begins_unsupported_escape (a ∷ b ∷ rest) =
    (a == code "\\") && (is_unsupported_letter b || (b == code "u") && begins_surrogate rest)

-- `(?<`
abbrev pub begins_named_group : List ℕ → Bool
begins_named_group text = starts_with nat_eq text (codes "(?<")

-- `(`, whatever follows
abbrev pub begins_group : List ℕ → Bool
begins_group text = starts_with nat_eq text (codes "(")
