-- White space and line ends: WhiteSpace and LineTerminator of ECMA-262. Texts are lists of bytes.
use Prim.Native.Char.{code}
use Rattle.std.specs.Prelude.{ℕ, Bool, false, ◌==◌, ◌&&◌, ◌||◌, nat_eq, nat_lt, nat_le, if◌then◌else◌, List, [], ◌∷◌}
use Rattle.std.specs.List.{list_any, starts_with}

-- a space, a tab, a vertical tab, a form feed, or a line end of ASCII
abbrev pub is_ascii_space : ℕ → Bool
is_ascii_space c = c == code " " || nat_le 9 c && nat_le c 13

-- the three bytes of U+1680, of U+2000 to U+200A, of U+2028, U+2029, U+202F, U+205F, U+3000 or U+FEFF
abbrev pub is_wide_space : ℕ → ℕ → ℕ → Bool
is_wide_space a b c =
    if a == 0xE1 && b == 0x9A then c == 0x80
    else if a == 0xE2 && b == 0x80 then nat_le c 0x8A || c == 0xA8 || c == 0xA9 || c == 0xAF
    else if a == 0xE2 && b == 0x81 then c == 0x9F
    else if a == 0xE3 && b == 0x80 then c == 0x80
    else if a == 0xEF && b == 0xBB then c == 0xBF
    else false

-- how many bytes white space or a line end beyond ASCII takes at the front: two for U+00A0, three for another,
-- and else 0
abbrev pub wide_space_len : List ℕ → ℕ
wide_space_len [] = 0
wide_space_len (a ∷ []) = 0
wide_space_len (a ∷ b ∷ []) = if a == 0xC2 && b == 0xA0 then 2 else 0
wide_space_len (a ∷ b ∷ c ∷ rest) = if a == 0xC2 && b == 0xA0 then 2 else if is_wide_space a b c then 3 else 0

-- how many bytes the character at the front takes, if it is white space or a line end, and else 0
abbrev pub space_part : List ℕ → ℕ
space_part [] = 0
space_part (c ∷ cs) = if nat_lt c 0x80 then (if is_ascii_space c then 1 else 0) else wide_space_len (c ∷ cs)

-- a line ends at the front: by a line feed, a carriage return, U+2028 or U+2029
abbrev pub begins_line_end : List ℕ → Bool
begins_line_end [] = false
begins_line_end (c ∷ cs) =
    if nat_lt c 0x80 then c == code "\n" || c == code "\r"
    else starts_with nat_eq (c ∷ cs) (0xE2 ∷ 0x80 ∷ 0xA8 ∷ []) || starts_with nat_eq (c ∷ cs) (0xE2 ∷ 0x80 ∷ 0xA9 ∷ [])

-- a line feed or a carriage return stands in the text
abbrev pub has_line_end : List ℕ → Bool
has_line_end text = list_any (λ c. c == code "\n" || c == code "\r") text
