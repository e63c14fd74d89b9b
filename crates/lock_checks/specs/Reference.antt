-- How a reference is read, and which packages it tells.
use Rattle.std.specs.Prelude.{ℕ, Bool, ◌==◌, if◌then◌else◌, List, [], ◌∷◌, Option, Some, None, codes, nat_eq, unwrap_or}
use Rattle.std.specs.List.{starts_with}

-- what follows the first `#`, where there is one
abbrev pub behind_mark : List ℕ → Option (List ℕ)
behind_mark [] = None
behind_mark (c ∷ cs) = if c == 35 then Some cs else behind_mark cs

-- A reference without its virtual part, which ends at the first `#`; a virtual one that has no `#` stays as it is.
abbrev pub plain_reference : List ℕ → List ℕ
plain_reference reference =
    if starts_with nat_eq reference (codes "virtual:") then unwrap_or (behind_mark reference) reference else reference

-- a package of the workspace
abbrev pub is_workspace : List ℕ → Bool
is_workspace reference = starts_with nat_eq (plain_reference reference) (codes "workspace:")

-- a package of npm's registry
abbrev pub is_npm : List ℕ → Bool
is_npm reference = starts_with nat_eq (plain_reference reference) (codes "npm:")
