-- What one part of a path does.
use Rattle.std.specs.Prelude.{ℕ, ◌||◌, Bool, if◌then◌else◌, List, [], ◌∷◌, bytes_eq}

-- a part that leads nowhere: an empty part or `.`
abbrev pub is_silent : List ℕ → Bool
is_silent part = bytes_eq part [] || bytes_eq part (46 ∷ [])

-- where a part leads: a silent one stays, `..` goes up, and a name goes down
abbrev pub by_kind : {A : Type 0} → List ℕ → A → A → A → A
by_kind part stays up down = if is_silent part then stays else if bytes_eq part (46 ∷ 46 ∷ []) then up else down
