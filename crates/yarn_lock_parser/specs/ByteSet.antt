-- The sets of bytes that the parts of a lock file are runs of.
use Rattle.std.specs.Prelude.{ℕ, Bool, ◌==◌, ◌||◌, ◌&&◌, not, codes}
use Rattle.std.specs.Char.{char_set_contains, is_ascii_digit, is_ascii_uppercase, is_ascii_lowercase}

-- a space or a tab
abbrev pub is_blank : ℕ → Bool
is_blank b = b == 32 || b == 9

-- a blank, a carriage return or a line feed
abbrev pub is_white_space : ℕ → Bool
is_white_space b = b == 32 || b == 9 || b == 13 || b == 10

-- what a version is spelled with: a SemVer version, or a link
abbrev pub is_version_byte : ℕ → Bool
is_version_byte b =
    is_ascii_uppercase b || is_ascii_lowercase b || is_ascii_digit b || char_set_contains (codes ".-+@:/#%!~*'()") b

abbrev pub is_quote : ℕ → Bool
is_quote b = b == 34

abbrev pub is_no_line_feed : ℕ → Bool
is_no_line_feed b = not (b == 10)

abbrev pub is_no_line_end : ℕ → Bool
is_no_line_end b = not (b == 13) && not (b == 10)

abbrev pub is_no_quote : ℕ → Bool
is_no_quote b = not (b == 34)

abbrev pub is_no_colon : ℕ → Bool
is_no_colon b = not (b == 58)

abbrev pub is_no_at : ℕ → Bool
is_no_at b = not (b == 64)

-- no comma, no quote and no line feed
abbrev pub is_descriptor_byte : ℕ → Bool
is_descriptor_byte b = not (b == 44) && not (b == 34) && not (b == 10)

-- no colon and no space
abbrev pub is_name_byte : ℕ → Bool
is_name_byte b = not (b == 58) && not (b == 32)

-- no quote, no carriage return and no line feed
abbrev pub is_unquoted_byte : ℕ → Bool
is_unquoted_byte b = not (b == 34) && not (b == 13) && not (b == 10)
