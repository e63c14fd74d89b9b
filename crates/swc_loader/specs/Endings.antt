-- What makes an ending that any name may have.
use Rattle.std.specs.Prelude.{◌==◌, ◌&&◌, ℕ, Bool, false, not, IsTrue, List, [], ◌∷◌}
use Rattle.std.specs.List.{list_all}
use Rattle.sugar_path.specs.Path.{has_no_slash}

-- two bytes and more, no `/` in them, the first a dot and the second none: so it makes a name of what stands before it
abbrev pub is_ending : List ℕ → Bool
is_ending [] = false
is_ending (a ∷ []) = false
is_ending (a ∷ b ∷ cs) = (a == 46) && not (b == 46) && has_no_slash (b ∷ cs)

abbrev pub are_endings : List (List ℕ) → Bool
are_endings es = list_all is_ending es

abbrev pub AreEndings : List (List ℕ) → Type 0
AreEndings es = IsTrue (are_endings es)

-- the endings behind each of these extensions
abbrev pub all_are_endings : List (List ℕ × List (List ℕ)) → Bool
all_are_endings named = list_all (λ one. are_endings one.1) named
