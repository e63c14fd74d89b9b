-- A package with the requirement on its version, as `name@range`.
use Rattle.std.specs.Prelude.{ℕ, ◌==◌, if◌then◌else◌, List, [], ◌∷◌, Option, Some, None, option_map, codes}

-- what stands before the last byte b, and what follows it
abbrev pub around_last : ℕ → List ℕ → Option (List ℕ × List ℕ)
around_last b [] = None
around_last b (c ∷ cs) = or_here b c cs (around_last b cs)
  where
    or_here : ℕ → ℕ → List ℕ → Option (List ℕ × List ℕ) → Option (List ℕ × List ℕ)
    or_here b c cs (Some later) = Some (c ∷ later.0, later.1)
    or_here b c cs None = if c == b then Some ([], cs) else None

-- a name and a requirement, where there is no `@` between them the requirement `*`
abbrev pub or_any : List ℕ → Option (List ℕ × List ℕ) → List ℕ × List ℕ
or_any name None = (name, codes "*")
or_any name (Some parted) = parted

-- the name, which ends at the last `@` that isn't the first byte, and the text of the requirement
abbrev pub name_and_range : List ℕ → List ℕ × List ℕ
name_and_range [] = ([], codes "*")
name_and_range (c ∷ cs) = or_any (c ∷ cs) (option_map (λ parted. (c ∷ parted.0, parted.1)) (around_last 64 cs))
