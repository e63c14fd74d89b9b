-- What a reader asks of a JSON value.
use Rattle.std.specs.Prelude.{ℕ, Bool, true, false, List, [], ◌∷◌, map}
use Rattle.std.specs.Borrow.{Bor}
use Rattle.std.specs.Cmp.Lexicographic.{slice_cmp}
use Rattle.std.specs.List.Sorted.{IsStrictlySortedBy}
use Rattle.std.specs.Ordering.{nat_cmp}
use Rattle.serde_json.specs.Data.{Data, null, boolean, number, string, array, object, Members, no_members, member}

-- the value is null
abbrev pub is_null : Data → Bool
is_null null = true
is_null (boolean b) = false
is_null (number n) = false
is_null (string s) = false
is_null (array ds) = false
is_null (object ms) = false

-- members in a list, each a borrowed name and a borrowed value
abbrev pub listed : {V : Type 0} → (V → Data) → List (Bor (List ℕ) × Bor V) → Members
listed f [] = no_members
listed f (m ∷ ms) = member m.0.now (f m.1.now) (listed f ms)

-- the names come in the order of their bytes, each once
abbrev pub NamesRise : {V : Type 0} → List (Bor (List ℕ) × Bor V) → Type 0
NamesRise ms = IsStrictlySortedBy (slice_cmp nat_cmp) (map (λ m. m.0.now) ms)
