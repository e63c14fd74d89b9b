-- Maps that are told by what their values mean.
use Rattle.std.specs.Prelude.{ℕ, List, map}

-- each value told by a function, under its name
abbrev pub told_by : {V M : Type 0} → (V → M) → List (List ℕ × V) → List (List ℕ × M)
told_by told es = map (λ e. (e.0, told e.1)) es
