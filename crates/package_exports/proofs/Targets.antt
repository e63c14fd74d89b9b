-- Targets of values: that of a member by its key, and where a target stands.
use Rattle.std.proofs.Common.{
  ◌≡◌,
  ◌<◌,
  ◌≤◌,
  ◌⊎◌,
  inl,
  inr,
  ℕ,
  zero,
  suc,
  Bool,
  true,
  false,
  cond,
  bytes_eq,
  nat_eq,
  List,
  [],
  ◌∷◌,
  length,
  get_or,
  Option,
  Some,
  None,
  Ordering,
  Less,
  Equal,
  Greater,
  is_eq,
  refl,
  sym,
  ap,
  ◌∙◌,
  arith,
}
use Rattle.std.specs.Prelude.{codes, option_and_then}
use Rattle.std.specs.List.{starts_with}
use Rattle.std.specs.Option.{option_or}
use Rattle.std.specs.Ordering.{nat_cmp, match_ordering}
use Rattle.std.specs.Cmp.Lexicographic.{slice_cmp}
use Rattle.std.proofs.lemmas.Map.Text.{is_eq-slice_cmp}
use Rattle.serde_json.specs.Data.{
  Data,
  null,
  boolean,
  number,
  string,
  array,
  object,
  Items,
  no_items,
  item,
  Members,
  no_members,
  member,
  depth,
  items_depth,
  members_depth,
}
use Rattle.serde_json.specs.View.{view, items_view}
use Rattle.serde_json.specs.declared.value.Value.{Value}
use Rattle.serde_json.specs.Find.{get_member}
use Rattle.package_exports.specs.Exported.{file_target, under, by_conditions, target, first_target, targets}
use Rattle.package_exports.specs.Laws.{StandsIn, StandsInItems, StandsInMembers, under_first, TargetStands}

choice : {A : Type 0} (o : Ordering) (a b : A) → match_ordering o a b a ≡ cond (is_eq o) b a
choice Less a b = refl
choice Equal a b = refl
choice Greater a b = refl

-- the value of the first member with a key
pub get-cons : (key k : List ℕ) (d : Data) (ms : Members)
    → get_member key (member k d ms) ≡ cond (bytes_eq key k) (Some d) (get_member key ms)
get-cons key k d ms =
    choice (slice_cmp nat_cmp key k) (get_member key ms) (Some d)
    ∙ ap (λ b. cond b (Some d) (get_member key ms)) (is_eq-slice_cmp key k)

-- the target under a condition is that of the member with that key
pub under-member : (conditions : List (List ℕ)) (key : List ℕ) (ms : Members)
    → under key (targets conditions ms) ≡ option_and_then (target conditions) (get_member key ms)
under-member conditions key no_members = refl
under-member conditions key (member k d ms) = by_key (bytes_eq key k) (under-member conditions key ms)
    ∙ ap (option_and_then (target conditions)) (sym (get-cons key k d ms))
  where
    by_key : (b : Bool) → under key (targets conditions ms) ≡ option_and_then (target conditions) (get_member key ms)
        → cond b (target conditions d) (under key (targets conditions ms)) ≡ option_and_then (target conditions)
        (cond b (Some d) (get_member key ms))
    by_key true rest = refl
    by_key false rest = rest

-- a member is no deeper than its object
pub member-depth : (key : List ℕ) (ms : Members) (d : Data) → get_member key ms ≡ Some d → depth d ≤ members_depth ms
member-depth key no_members d e = cc
member-depth key (member k v ms) d e = by_key (bytes_eq key k) (sym (get-cons key k v ms) ∙ e) (member-depth key ms d)
  where
    by_key : (b : Bool) → cond b (Some v) (get_member key ms) ≡ Some d
        → (get_member key ms ≡ Some d → depth d ≤ members_depth ms)
        → depth d ≤ members_depth (member k v ms)
    by_key true e rest = let same : v ≡ d = cc in omega (arith, ap depth same)
    by_key false e rest = omega (arith, rest e)

-- an item is no deeper than its list
pub item-depth : (vs : List Value) (i : ℕ) (v : Value) → i < length vs
    → depth (view (get_or vs i v)) ≤ items_depth (items_view vs)
item-depth [] i v h = absurd (omega arith)
item-depth (w ∷ vs) zero v h = omega arith
item-depth (w ∷ vs) (suc i) v h = let rest = item-depth vs i v (omega arith) in omega (arith, rest)

-- ---- where a target stands
-- the first of two, or the second
pub either : {A : Type 0} (o p : Option A) (a : A) → option_or o p ≡ Some a → (o ≡ Some a) ⊎ (p ≡ Some a)
either None p a e = inr e
either (Some b) p a e = inl e

file-same : (s text : List ℕ) → file_target s ≡ Some text → text ≡ s
file-same s text e = by_start (starts_with nat_eq s (codes "./")) e
  where
    by_start : (b : Bool) → cond b (Some s) None ≡ Some text → text ≡ s
    by_start true e = cc
    by_start false e = cc

by_conditions-some : (conditions : List (List ℕ)) (ts : List (List ℕ × Option (List ℕ))) (text : List ℕ)
    → by_conditions conditions ts ≡ Some text
    → (key : List ℕ) × (under key ts ≡ Some text)
by_conditions-some [] ts text e = cc
by_conditions-some (c ∷ cs) ts text e =
    by_first (either (under c ts) (by_conditions cs ts) text e) (by_conditions-some cs ts text)
  where
    by_first : (under c ts ≡ Some text) ⊎ (by_conditions cs ts ≡ Some text)
        → (by_conditions cs ts ≡ Some text → (key : List ℕ) × (under key ts ≡ Some text))
        → (key : List ℕ) × (under key ts ≡ Some text)
    by_first (inl h) rest = (c, h)
    by_first (inr h) rest = rest h

by_key : (conditions : List (List ℕ)) (k : List ℕ) (d : Data) (ms : Members) (text key : List ℕ) (b : Bool)
    → cond b (target conditions d) (under key (targets conditions ms)) ≡ Some text
    → (target conditions d ≡ Some text → StandsIn text d)
    → (under key (targets conditions ms) ≡ Some text → StandsInMembers text ms)
    → StandsInMembers text (member k d ms)
by_key conditions k d ms text key true e here later = inl (here e)
by_key conditions k d ms text key false e here later = inr (later e)

mutual
  stands : (conditions : List (List ℕ)) (d : Data) (text : List ℕ) → target conditions d ≡ Some text → StandsIn text d
  stands conditions null text e = cc
  stands conditions (boolean b) text e = cc
  stands conditions (number n) text e = cc
  stands conditions (string s) text e = file-same s text e
  stands conditions (array ds) text e = stands-items conditions ds text e
  stands conditions (object ms) text e =
      let found = by_conditions-some conditions (targets conditions ms) text e in
      stands-members conditions ms text found.0 found.1

  stands-items : (conditions : List (List ℕ)) (ds : Items) (text : List ℕ) → first_target conditions ds ≡ Some text
      → StandsInItems text ds
  stands-items conditions no_items text e = cc
  stands-items conditions (item d ds) text e = elim (either (target conditions d) (first_target conditions ds) text e) [
    | inl h ↦ inl (stands conditions d text h)
    | inr h ↦ inr (stands-items conditions ds text h)
  ]

  stands-members : (conditions : List (List ℕ)) (ms : Members) (text key : List ℕ)
      → under key (targets conditions ms) ≡ Some text → StandsInMembers text ms
  stands-members conditions no_members text key e = cc
  stands-members conditions (member k d ms) text key e =
      by_key conditions k d ms text key (bytes_eq key k) e (stands conditions d text)
      (stands-members conditions ms text key)

under_first-same : (all conditions : List (List ℕ)) (ms : Members)
    → by_conditions conditions (targets all ms) ≡ under_first all conditions ms
under_first-same all [] ms = refl
under_first-same all (c ∷ cs) ms =
    ap (λ o. option_or o (by_conditions cs (targets all ms))) (under-member all c ms)
    ∙ ap (option_or (option_and_then (target all) (get_member c ms))) (under_first-same all cs ms)

pub target_stands : TargetStands
target_stands = record {
  stands = stands;
  by_condition = λ conditions ms. under_first-same conditions conditions ms;
}
