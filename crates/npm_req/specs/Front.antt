-- What stands at the ends of a text.
use Rattle.std.specs.Prelude.{◌≡◌, ◌++◌, ℕ, Bool, ◌==◌, ◌||◌, if◌then◌else◌, List, [], ◌∷◌}

-- what follows the bytes in front that pass a test
abbrev pub after_all : (ℕ → Bool) → List ℕ → List ℕ
after_all passes [] = []
after_all passes (c ∷ cs) = if passes c then after_all passes cs else c ∷ cs

-- what stands before the bytes at the end that pass a test
abbrev pub before_all : (ℕ → Bool) → List ℕ → List ℕ
before_all passes [] = []
before_all passes (c ∷ cs) = joined (passes c) c (before_all passes cs)
  where
    joined : Bool → ℕ → List ℕ → List ℕ
    joined b c [] = if b then [] else c ∷ []
    joined b c (d ∷ ds) = c ∷ d ∷ ds

-- a space
abbrev pub is_space : ℕ → Bool
is_space c = c == 32

-- a space or a tab
abbrev pub is_blank : ℕ → Bool
is_blank c = c == 32 || c == 9

-- a text without the spaces and tabs around it
abbrev pub trimmed : List ℕ → List ℕ
trimmed t = before_all is_blank (after_all is_blank t)

-- s is the end of t
abbrev pub IsEndOf : List ℕ → List ℕ → Type 0
IsEndOf s t = (front : List ℕ) × (t ≡ front ++ s)
