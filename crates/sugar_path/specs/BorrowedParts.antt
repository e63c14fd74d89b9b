-- How the code finds the relative path at the end of a target.
use Rattle.std.specs.Prelude.{◌≡◌, ◌≢◌, ◌⊎◌, ℕ, List, [], ◌∷◌, ◌++◌, MatchOption, Option}

-- what follows a front in a text: nothing, or what stands behind a slash
abbrev pub IsRestBehind : List ℕ → List ℕ → Option (List ℕ) → Type 0
IsRestBehind front text rest =
    MatchOption rest
    ((text ≢ front) × ((r : List ℕ) → text ≢ front ++ 47 ∷ r))
    (λ r. ((text ≡ front) × (r ≡ [])) ⊎ (text ≡ front ++ 47 ∷ r))
