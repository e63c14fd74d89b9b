-- Which texts are counts, by their digits.
use Rattle.std.specs.Prelude.{ℕ, Bool, nat_le, nat_lt, not, ◌&&◌, ◌||◌, ◌==◌, List, length, slice_index}
use Rattle.std.specs.List.{list_all}

abbrev pub is_decimal : ℕ → Bool
is_decimal c = nat_le 48 c && nat_le c 57

-- one digit or more, and no zero in front of another one
abbrev pub is_count : List ℕ → Bool
is_count ds = list_all is_decimal ds && (nat_lt 0 (length ds) && (not (slice_index ds 0 == 48) || length ds == 1))
