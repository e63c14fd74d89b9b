-- The lines of a text: each has a line end behind it.
use Rattle.std.specs.Prelude.{ℕ, zero, suc, Bool, not, ◌==◌, if◌then◌else◌, List, [], ◌∷◌}
use Rattle.std.specs.List.{list_all}

-- a byte doesn't stand in a text
abbrev pub lacks : ℕ → List ℕ → Bool
lacks c = list_all (λ b. not (b == c))

-- no line end stands in it
abbrev pub is_line : List ℕ → Bool
is_line = lacks 10

-- the text up to the end of its line with this number, and all of it where it has fewer
abbrev pub first_lines : ℕ → List ℕ → List ℕ
first_lines zero text = []
first_lines (suc n) [] = []
first_lines (suc n) (c ∷ text) = c ∷ first_lines (if c == 10 then n else suc n) text
