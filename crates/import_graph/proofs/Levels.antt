-- Levels: how they are made, that they end, and that none follows an empty one.
use Rattle.std.proofs.Common.{
  ◌≡◌,
  ◌≤◌,
  ◌<◌,
  ◌+◌,
  ◌-◌,
  ◌||◌,
  ◌⊎◌,
  inl,
  inr,
  ℕ,
  zero,
  suc,
  Bool,
  true,
  false,
  cond,
  bytes_eq,
  List,
  [],
  ◌∷◌,
  ◌++◌,
  length,
  filter,
  refl,
  sym,
  ap,
  ◌∙◌,
  subst,
  arith,
  append-nil,
  length-append,
}
use Rattle.std.specs.List.{flat_map, list_any, AllByRecursion, IsDistinct}
use Rattle.std.proofs.lemmas.Bool.{cases_lt}
use Rattle.std.proofs.lemmas.Cmp.{nat_list_eq_equiv}
use Rattle.std.proofs.lemmas.List.Concat.{flat_map-append}
use Rattle.std.proofs.lemmas.Map.Keys.{IsDistinct-cons, IsDistinct-head, IsDistinct-tail}
use Rattle.std.proofs.lemmas.Map.Steps.{list_any_congr}
use Rattle.std.proofs.lemmas.Map.Made.{length-le_from_is_member}
use Rattle.std.proofs.Math.Nat.{suc-add, zero-add}
use Rattle.indexmap.specs.IndexSet.{insert_all}
use Rattle.import_graph.specs.Levels.{among, once, without, Level, up_to, level_behind, level_at}
use Rattle.import_graph.proofs.Repeats.{behind-others, insert_all-append, distinct-all}

-- the files up to a level are the first ones, and behind them what the earlier ones lead to
pub level-made : (leads : List ℕ → List (List ℕ)) (first : List (List ℕ)) (k : ℕ)
    → insert_all bytes_eq first (flat_map leads (level_at leads first k).before) ≡ up_to (level_at leads first k)
level-made leads first zero = refl
level-made leads first (suc k) =
    let l = level_at leads first k in
    ap (insert_all bytes_eq first) (flat_map-append leads l.before l.files)
    ∙ insert_all-append first (flat_map leads l.before) (flat_map leads l.files)
    ∙ ap (λ xs. insert_all bytes_eq xs (flat_map leads l.files)) (level-made leads first k)
    ∙ behind-others (up_to l) (flat_map leads l.files)

-- no file stands twice
pub levels-distinct : (leads : List ℕ → List (List ℕ)) (first : List (List ℕ)) (k : ℕ) → IsDistinct bytes_eq first
    → IsDistinct bytes_eq (up_to (level_at leads first k))
levels-distinct leads first k distinct = subst (IsDistinct bytes_eq) (level-made leads first k)
    (distinct-all first (flat_map leads (level_at leads first k).before) distinct)

-- a level behind an empty one is empty too
pub ended-then : (leads : List ℕ → List (List ℕ)) (first : List (List ℕ)) (k more : ℕ)
    → (level_at leads first k).files ≡ [] → ((level_at leads first (more + k)).files ≡ [])
    × ((level_at leads first (more + k)).before ≡ (level_at leads first k).before)
ended-then leads first k zero none = rw (zero-add k) (none, refl)
ended-then leads first k (suc more) none =
    let l = level_at leads first (more + k) in
    let earlier = ended-then leads first k more none in
    rw (suc-add more k) (
      ap (λ files. without (up_to l) (once (flat_map leads files))) earlier.0,
      ap (λ files. l.before ++ files) earlier.0 ∙ append-nil l.before ∙ earlier.1,
    )

-- the files before any two levels that are empty are the same
pub ended-same : (leads : List ℕ → List (List ℕ)) (first : List (List ℕ)) (j k : ℕ)
    → (level_at leads first j).files ≡ [] → (level_at leads first k).files ≡ []
    → (level_at leads first j).before ≡ (level_at leads first k).before
ended-same leads first j k j_none k_none = by_order (cases_lt j k)
  where
    by_order : (j < k) ⊎ (k ≤ j) → (level_at leads first j).before ≡ (level_at leads first k).before
    by_order (inl lt) =
        let n : k - j + j ≡ k = omega (arith, lt) in
        sym (subst (λ (m : ℕ). (level_at leads first m).before ≡ (level_at leads first j).before) n
        (ended-then leads first j (k - j) j_none).1)
    by_order (inr le) =
        let n : j - k + k ≡ j = omega (arith, le) in
        subst (λ (m : ℕ). (level_at leads first m).before ≡ (level_at leads first k).before) n
        (ended-then leads first k (j - k) k_none).1

-- ---- levels end
abbrev inside : List (List ℕ) → List (List ℕ) → List (List ℕ)
inside all files = filter (λ file. among file all) files

inside-append : (all xs ys : List (List ℕ)) → inside all (xs ++ ys) ≡ inside all xs ++ inside all ys
inside-append all [] ys = refl
inside-append all (x ∷ xs) ys = by_test (among x all) (inside-append all xs ys)
  where
    by_test : (b : Bool) → inside all (xs ++ ys) ≡ inside all xs ++ inside all ys
        → cond b (x ∷ inside all (xs ++ ys)) (inside all (xs ++ ys)) ≡ cond b (x ∷ inside all xs) (inside all xs)
        ++ inside all ys
    by_test true rest = ap (λ zs. x ∷ zs) rest
    by_test false rest = rest

-- files of which none is inside lead to nothing
leads-none : (leads : List ℕ → List (List ℕ)) (all files : List (List ℕ))
    → ((file : List ℕ) → among file all ≡ false → leads file ≡ []) → inside all files ≡ [] → flat_map leads files ≡ []
leads-none leads all [] outside none = refl
leads-none leads all (file ∷ files) outside none =
    by_test (among file all) refl none (leads-none leads all files outside)
  where
    by_test : (b : Bool) → among file all ≡ b → cond b (file ∷ inside all files) (inside all files) ≡ []
        → (inside all files ≡ [] → flat_map leads files ≡ []) → leads file ++ flat_map leads files ≡ []
    by_test true is h rest = cc
    by_test false is h rest = rw (outside file is, rest h) refl

-- a level is empty, or there are as many files inside before it as its number
counted : (leads : List ℕ → List (List ℕ)) (first all : List (List ℕ))
    → ((file : List ℕ) → among file all ≡ false → leads file ≡ []) → (k : ℕ) → ((level_at leads first k).files ≡ [])
    ⊎ (k ≤ length (inside all (level_at leads first k).before))
counted leads first all outside zero = inr (omega arith)
counted leads first all outside (suc k) = by_case (level_at leads first k) (counted leads first all outside k)
  where
    by_files : (l : Level) (xs : List (List ℕ)) → inside all l.files ≡ xs → k ≤ length (inside all l.before)
        → ((level_behind leads l).files ≡ []) ⊎ (suc k ≤ length (inside all (l.before ++ l.files)))
    by_files l [] is few = inl (ap (λ files. without (up_to l) (once files)) (leads-none leads all l.files outside is))
    by_files l (x ∷ xs) is few =
        let whole =
        ap length (inside-append all l.before l.files) ∙ length-append (inside all l.before) (inside all l.files) in
        let some : length (inside all l.files) ≡ suc (length xs) = ap length is in
        inr (omega (arith, whole, some, few))

    by_case : (l : Level) → (l.files ≡ []) ⊎ (k ≤ length (inside all l.before)) → ((level_behind leads l).files ≡ [])
        ⊎ (suc k ≤ length (inside all (l.before ++ l.files)))
    by_case l (inl none) = inl (ap (λ files. without (up_to l) (once (flat_map leads files))) none)
    by_case l (inr few) = by_files l (inside all l.files) refl few

all-filter : {X : Type 0} (P : X → Type 0) (p : X → Bool) (xs : List X) → AllByRecursion P xs
    → AllByRecursion P (filter p xs)
all-filter P p [] all = tt
all-filter {X} P p (x ∷ xs) all = by_test (p x) (all-filter P p xs all.1)
  where
    by_test : (b : Bool) → AllByRecursion P (filter p xs) → AllByRecursion P (cond b (x ∷ filter p xs) (filter p xs))
    by_test true rest = (all.0, rest)
    by_test false rest = rest

distinct-filter : (p : List ℕ → Bool) (xs : List (List ℕ)) → IsDistinct bytes_eq xs → IsDistinct bytes_eq (filter p xs)
distinct-filter p [] distinct = distinct
distinct-filter p (x ∷ xs) distinct = by_test (p x) (distinct-filter p xs (IsDistinct-tail bytes_eq x xs distinct))
  where
    by_test : (b : Bool) → IsDistinct bytes_eq (filter p xs)
        → IsDistinct bytes_eq (cond b (x ∷ filter p xs) (filter p xs))
    by_test true rest = IsDistinct-cons bytes_eq x (filter p xs)
        (all-filter (λ y. bytes_eq x y ≡ false) p xs (IsDistinct-head bytes_eq x xs distinct)) rest
    by_test false rest = rest

-- what stands inside some files and among those inside stands among them
inside-there : (all files : List (List ℕ)) (text : List ℕ) → among text (inside all files) ≡ true
    → among text all ≡ true
inside-there all [] text there = cc
inside-there all (file ∷ files) text there = by_test (among file all) refl there (inside-there all files text)
  where
    by_tests : (b : Bool) → bytes_eq text file ≡ b → among file all ≡ true → (b || among text (inside all files)) ≡ true
        → (among text (inside all files) ≡ true → among text all ≡ true) → among text all ≡ true
    by_tests true same is h rest = list_any_congr nat_list_eq_equiv text file all same ∙ is
    by_tests false other is h rest = rest h

    by_test : (b : Bool) → among file all ≡ b
        → list_any (bytes_eq text) (cond b (file ∷ inside all files) (inside all files)) ≡ true
        → (among text (inside all files) ≡ true → among text all ≡ true) → among text all ≡ true
    by_test true is h rest = by_tests (bytes_eq text file) refl is h rest
    by_test false is h rest = rest h

-- there are no more levels than files that lead to others, and one more
pub levels-end : (leads : List ℕ → List (List ℕ)) (first all : List (List ℕ))
    → ((file : List ℕ) → among file all ≡ false → leads file ≡ []) → IsDistinct bytes_eq first
    → (level_at leads first (suc (length all))).files ≡ []
levels-end leads first all outside distinct = by_case (counted leads first all outside (suc (length all)))
  where
    before : List (List ℕ)
    before = (level_at leads first (suc (length all))).before

    apart : IsDistinct bytes_eq (inside all before)
    apart = distinct-filter (λ file. among file all) before (levels-distinct leads first (length all) distinct)

    by_case : ((level_at leads first (suc (length all))).files ≡ []) ⊎ (suc (length all) ≤ length (inside all before))
        → (level_at leads first (suc (length all))).files ≡ []
    by_case (inl none) = none
    by_case (inr many) =
        let few = length-le_from_is_member nat_list_eq_equiv (inside all before) all apart (inside-there all before) in
        absurd (omega (arith, many, few))
