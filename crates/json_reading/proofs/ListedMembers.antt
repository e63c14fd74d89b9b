-- The members of a map in a list of borrowed names and values.
use Rattle.std.proofs.Common.{
  ◌≡◌,
  ℕ,
  Less,
  List,
  [],
  ◌∷◌,
  ◌++◌,
  nat_cmp,
  String,
  Global,
  string_bytes,
  refl,
  sym,
  ap,
  ◌∙◌,
  subst,
  append-nil,
}
use Rattle.std.specs.Borrow.{Bor}
use Rattle.std.specs.Cmp.Lexicographic.{slice_cmp}
use Rattle.std.specs.List.{AllByRecursion}
use Rattle.std.specs.List.Sorted.{IsStrictlySortedBy}
use Rattle.std.specs.Map.{keys_of}
use Rattle.std.specs.Prelude.{map}
use Rattle.std.specs.String.{string_cmp}
use Rattle.serde_json.specs.Data.{Members, no_members, member}
use Rattle.serde_json.specs.View.{view, members_view}
use Rattle.serde_json.specs.declared.value.Value.{Value}
use Rattle.json_reading.specs.Kinds.{NamesRise, listed}

abbrev pub Pair : Type 0
Pair = List ℕ × Value

-- the names and values that are borrowed
abbrev pub told : List (Bor (List ℕ) × Bor Value) → List Pair
told ms = map (λ m. (m.0.now, m.1.now)) ms

-- the names and values of a map
abbrev pub shown : List (String Global × Value) → List Pair
shown es = map (λ e. (string_bytes e.0, e.1)) es

of_pairs : List Pair → Members
of_pairs [] = no_members
of_pairs (p ∷ ps) = member p.0 (view p.1) (of_pairs ps)

listed-of_pairs : (ms : List (Bor (List ℕ) × Bor Value)) → listed view ms ≡ of_pairs (told ms)
unfolding of_pairs
listed-of_pairs [] = refl
listed-of_pairs (m ∷ ms) = ap (member m.0.now (view m.1.now)) (listed-of_pairs ms)

members_view-of_pairs : (es : List (String Global × Value)) → of_pairs (shown es) ≡ members_view es
unfolding of_pairs
members_view-of_pairs [] = refl
members_view-of_pairs (e ∷ es) = ap (member (string_bytes e.0) (view e.1)) (members_view-of_pairs es)

-- a list that tells the entries of a map has its members
pub listed-shown : (ms : List (Bor (List ℕ) × Bor Value)) (es : List (String Global × Value)) → told ms ≡ shown es
    → listed view ms ≡ members_view es
listed-shown ms es same = listed-of_pairs ms ∙ ap of_pairs same ∙ members_view-of_pairs es

names-told : (ms : List (Bor (List ℕ) × Bor Value)) → map (λ m. m.0.now) ms ≡ map (λ p. p.0) (told ms)
names-told [] = refl
names-told (m ∷ ms) = ap (λ ns. m.0.now ∷ ns) (names-told ms)

all-below : (k : String Global) (es : List (String Global × Value))
    → AllByRecursion (λ l. string_cmp k l ≡ Less) (keys_of es)
    → AllByRecursion (λ n. slice_cmp nat_cmp (string_bytes k) n ≡ Less) (map (λ p. p.0) (shown es))
all-below k [] h = tt
all-below k (e ∷ es) h = (h.0, all-below k es h.1)

rise-shown : (es : List (String Global × Value)) → IsStrictlySortedBy string_cmp (keys_of es)
    → IsStrictlySortedBy (slice_cmp nat_cmp) (map (λ p. p.0) (shown es))
unfolding IsStrictlySortedBy
rise-shown [] h = tt
rise-shown (e ∷ es) h = (all-below e.0 es h.0, rise-shown es h.1)

-- its names rise, as those of the map do
pub NamesRise-shown : (ms : List (Bor (List ℕ) × Bor Value)) (es : List (String Global × Value)) → told ms ≡ shown es
    → IsStrictlySortedBy string_cmp (keys_of es) → NamesRise ms
NamesRise-shown ms es same sorted =
    subst (IsStrictlySortedBy (slice_cmp nat_cmp)) (sym (names-told ms ∙ ap (map (λ p. p.0)) same))
    (rise-shown es sorted)

-- where nothing of the map is left, the list tells all of it
pub told-all : (ms : List (Bor (List ℕ) × Bor Value)) (left es : List (String Global × Value)) → left ≡ [] → told ms
    ++ shown left ≡ shown es → told ms ≡ shown es
told-all ms left es none all = sym (append-nil (told ms)) ∙ ap (λ l. told ms ++ shown l) (sym none) ∙ all
