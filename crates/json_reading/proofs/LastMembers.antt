-- The last of the members that have a name.
use Rattle.std.proofs.Common.{
  ◌≡◌,
  ℕ,
  List,
  [],
  ◌∷◌,
  ◌++◌,
  true,
  false,
  cond,
  Option,
  Some,
  None,
  bytes_eq,
  Global,
  refl,
  sym,
  ap,
  ◌∙◌,
}
use Rattle.std.specs.Borrow.{Bor}
use Rattle.json.specs.Json.{Json}
use Rattle.json.specs.Find.{get_member, later_or}
use Rattle.json.specs.Value.{value_view, members_view}
use Rattle.json.specs.declared.value.Value.{Value}

later-none : (o : Option Json) → o ≡ later_or o None
later-none None = refl
later-none (Some j) = refl

later-later : (a b c : Option Json) → later_or (later_or a b) c ≡ later_or a (later_or b c)
later-later None b c = refl
later-later (Some j) b c = refl

-- the last member is found before the ones above it
get-last : (name : List ℕ) (ms : List (Bor (List ℕ) × Value Global)) (k : Bor (List ℕ)) (v : Value Global)
    → get_member name (members_view (ms ++ (k, v) ∷ [])) ≡ later_or
    (cond (bytes_eq k.now name) (Some (value_view v)) None) (get_member name (members_view ms))
get-last name [] k v = later-none (cond (bytes_eq k.now name) (Some (value_view v)) None)
get-last name (m ∷ ms) k v =
    ap (λ o. later_or o (cond (bytes_eq m.0.now name) (Some (value_view m.1)) None)) (get-last name ms k v)
    ∙ later-later (cond (bytes_eq k.now name) (Some (value_view v)) None) (get_member name (members_view ms)) _

-- a last member of the name is the one that is found
pub last-found : (name : List ℕ) (ms : List (Bor (List ℕ) × Value Global)) (k : Bor (List ℕ)) (v : Value Global)
    → bytes_eq k.now name ≡ true → Some (value_view v) ≡ get_member name (members_view (ms ++ (k, v) ∷ []))
last-found name ms k v is = sym (get-last name ms k v ∙ rw is refl)

-- a last member of another name is passed over
pub last-passed : (name : List ℕ) (ms : List (Bor (List ℕ) × Value Global)) (k : Bor (List ℕ)) (v : Value Global)
    (o : Option Json)
    → bytes_eq k.now name ≡ false → o ≡ get_member name (members_view ms)
    → o ≡ get_member name (members_view (ms ++ (k, v) ∷ []))
last-passed name ms k v o is found = found ∙ sym (get-last name ms k v ∙ rw is refl)
