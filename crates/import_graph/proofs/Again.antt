-- Lists that keep what was used last in front: keys that are used once more leave what they left before.
use Rattle.std.proofs.Common.{
  ◌≡◌,
  ◌≤◌,
  ◌<◌,
  ◌-◌,
  ◌&&◌,
  ◌||◌,
  ℕ,
  zero,
  suc,
  Bool,
  true,
  false,
  not,
  cond,
  List,
  [],
  ◌∷◌,
  length,
  map,
  take,
  filter,
  Option,
  Some,
  None,
  refl,
  sym,
  ap,
  ◌∙◌,
  subst,
  arith,
}
use Rattle.std.specs.List.{find, list_any, AllByRecursion, IsDistinct}
use Rattle.std.proofs.lemmas.List.{take_all}
use Rattle.std.proofs.lemmas.Map.Keys.{IsDistinct-head, IsDistinct-tail}
use Rattle.import_graph.proofs.Repeats.{filter-filter}
use Rattle.import_graph.proofs.Runs as runs

module _ {X K : Type 0} (key : X → K) (eq : K → K → Bool) (exact : (a b : K) → eq a b ≡ true → a ≡ b)
    (same : (a : K) → eq a a ≡ true) (make : K → X) (made : (k : K) → key (make k) ≡ k) where
  abbrev used : ℕ → List X → K → List X
  used room kept k = runs.used key eq exact same make made room kept k

  abbrev used_all : ℕ → List X → List K → List X
  used_all room kept ks = runs.used_all key eq exact same make made room kept ks

  -- it has another key
  abbrev lacks : K → X → Bool
  lacks k x = not (eq (key x) k)

  -- none of some has a key
  abbrev AreLacking : K → List X → Type 0
  AreLacking k xs = list_any (λ other. eq other k) (map key xs) ≡ false

  -- no two have one key
  abbrev pub AreApart : List X → Type 0
  AreApart [] = Unit {0}
  AreApart (x ∷ xs) = AreLacking (key x) xs × AreApart xs

  -- each is the one that is made for its key
  abbrev pub AreMade : List X → Type 0
  AreMade xs = AllByRecursion (λ x. make (key x) ≡ x) xs

  -- each differs from those behind it
  abbrev pub AreNew : List K → Type 0
  AreNew [] = Unit {0}
  AreNew (k ∷ ks) = (list_any (eq k) ks ≡ false) × AreNew ks

  -- ---- what has another key
  lacking-all : (k : K) (xs : List X) → AreLacking k xs → filter (lacks k) xs ≡ xs
  lacking-all k xs none = runs.filter-others key eq exact same make made k xs none

  lacking-here : (a b : Bool) → (a || b) ≡ false → (a ≡ false) × (b ≡ false)
  lacking-here true b h = cc
  lacking-here false b h = (refl, h)

  lacking-filter : (k : K) (p : X → Bool) (xs : List X) → AreLacking k xs → AreLacking k (filter p xs)
  lacking-filter k p [] none = refl
  lacking-filter k p (x ∷ xs) none =
      let parts = lacking-here (eq (key x) k) (list_any (λ other. eq other k) (map key xs)) none in
      by_test (p x) parts.0 (lacking-filter k p xs parts.1)
    where
      by_test : (b : Bool) → eq (key x) k ≡ false → AreLacking k (filter p xs)
          → AreLacking k (cond b (x ∷ filter p xs) (filter p xs))
      by_test true one rest = ap (λ b. b || list_any (λ other. eq other k) (map key (filter p xs))) one ∙ rest
      by_test false one rest = rest

  lacking-left : (k : K) (xs : List X) → AreLacking k (filter (lacks k) xs)
  lacking-left k [] = refl
  lacking-left k (x ∷ xs) = by_test (eq (key x) k) refl (lacking-left k xs)
    where
      by_test : (b : Bool) → eq (key x) k ≡ b → AreLacking k (filter (lacks k) xs)
          → AreLacking k (cond (not b) (x ∷ filter (lacks k) xs) (filter (lacks k) xs))
      by_test true is rest = rest
      by_test false is rest = ap (λ b. b || list_any (λ other. eq other k) (map key (filter (lacks k) xs))) is ∙ rest

  apart-filter : (p : X → Bool) (xs : List X) → AreApart xs → AreApart (filter p xs)
  apart-filter p [] apart = tt
  apart-filter p (x ∷ xs) apart = by_test (p x) (lacking-filter (key x) p xs apart.0) (apart-filter p xs apart.1)
    where
      by_test : (b : Bool) → AreLacking (key x) (filter p xs) → AreApart (filter p xs)
          → AreApart (cond b (x ∷ filter p xs) (filter p xs))
      by_test true one rest = (one, rest)
      by_test false one rest = rest

  made-filter : (p : X → Bool) (xs : List X) → AreMade xs → AreMade (filter p xs)
  made-filter p [] all = tt
  made-filter p (x ∷ xs) all = by_test (p x) (made-filter p xs all.1)
    where
      by_test : (b : Bool) → AreMade (filter p xs) → AreMade (cond b (x ∷ filter p xs) (filter p xs))
      by_test true rest = (all.0, rest)
      by_test false rest = rest

  -- a new one in front of those with other keys
  apart-first : (k : K) (xs : List X) → AreApart xs → AreApart (make k ∷ filter (lacks k) xs)
  apart-first k xs apart = (
    subst (λ (j : K). AreLacking j (filter (lacks k) xs)) (sym (made k)) (lacking-left k xs),
    apart-filter (lacks k) xs apart,
  )

  made-first : (k : K) (xs : List X) → AreMade xs → AreMade (make k ∷ filter (lacks k) xs)
  made-first k xs all = (ap make (made k), made-filter (lacks k) xs all)

  -- ---- lists without an end are used as well
  abbrev used_whole : List X → List K → List X
  used_whole xs [] = xs
  used_whole xs (k ∷ ks) = used_whole (make k ∷ filter (lacks k) xs) ks

  apart-whole : (xs : List X) (ks : List K) → AreApart xs → AreApart (used_whole xs ks)
  apart-whole xs [] apart = apart
  apart-whole xs (k ∷ ks) apart = apart-whole (make k ∷ filter (lacks k) xs) ks (apart-first k xs apart)

  made-whole : (xs : List X) (ks : List K) → AreMade xs → AreMade (used_whole xs ks)
  made-whole xs [] all = all
  made-whole xs (k ∷ ks) all = made-whole (make k ∷ filter (lacks k) xs) ks (made-first k xs all)

  -- ---- a list with an end is the front of one without
  cut-lacking : (r : ℕ) (k : K) (xs : List X) → AreLacking k xs
      → take r (filter (lacks k) (take r xs)) ≡ take r (filter (lacks k) xs)
  cut-lacking zero k xs none = refl
  cut-lacking (suc r) k [] none = refl
  cut-lacking (suc r) k (x ∷ xs) none =
      let parts = lacking-here (eq (key x) k) (list_any (λ other. eq other k) (map key xs)) none in
      rw parts.0 (ap (λ ys. x ∷ ys) (cut-lacking r k xs parts.1))

  cut : (r : ℕ) (k : K) (xs : List X) → AreApart xs
      → take r (filter (lacks k) (take (suc r) xs)) ≡ take r (filter (lacks k) xs)
  cut r k [] apart = refl
  cut r k (x ∷ xs) apart = by_test r (eq (key x) k) refl (λ n. cut n k xs apart.1)
    where
      by_test : (n : ℕ) (b : Bool) → eq (key x) k ≡ b
          → ((m : ℕ) → take m (filter (lacks k) (take (suc m) xs)) ≡ take m (filter (lacks k) xs))
          → take n (cond (not b) (x ∷ filter (lacks k) (take n xs)) (filter (lacks k) (take n xs))) ≡ take n
          (cond (not b) (x ∷ filter (lacks k) xs) (filter (lacks k) xs))
      by_test n true is rest = cut-lacking n k xs (subst (λ (j : K). AreLacking j xs) (exact (key x) k is) apart.0)
      by_test zero false is rest = refl
      by_test (suc m) false is rest = ap (λ ys. x ∷ ys) (rest m)

  found-made : (k : K) (xs : List X) (x : X) → AreMade xs → find (λ y. eq (key y) k) xs ≡ Some x → make k ≡ x
  found-made k [] x all e = cc
  found-made k (y ∷ xs) x all e = by_test (eq (key y) k) refl e (found-made k xs x all.1)
    where
      by_test : (b : Bool) → eq (key y) k ≡ b → cond b (Some y) (find (λ z. eq (key z) k) xs) ≡ Some x
          → (find (λ z. eq (key z) k) xs ≡ Some x → make k ≡ x) → make k ≡ x
      by_test true is h rest = let y_is : y ≡ x = cc in ap make (sym (exact (key y) k is)) ∙ all.0 ∙ y_is
      by_test false is h rest = rest h

  made-take : (n : ℕ) (xs : List X) → AreMade xs → AreMade (take n xs)
  made-take zero xs all = tt
  made-take (suc n) [] all = tt
  made-take (suc n) (x ∷ xs) all = (all.0, made-take n xs all.1)

  none-found : (k : K) (xs : List X) → find (λ y. eq (key y) k) xs ≡ None → filter (lacks k) xs ≡ xs
  none-found k [] e = refl
  none-found k (x ∷ xs) e = by_test (eq (key x) k) refl e (none-found k xs)
    where
      by_test : (b : Bool) → eq (key x) k ≡ b → cond b (Some x) (find (λ z. eq (key z) k) xs) ≡ None
          → (find (λ z. eq (key z) k) xs ≡ None → filter (lacks k) xs ≡ xs)
          → cond (not b) (x ∷ filter (lacks k) xs) (filter (lacks k) xs) ≡ x ∷ xs
      by_test true is h rest = cc
      by_test false is h rest = ap (λ ys. x ∷ ys) (rest h)

  -- one at least is left out where one is found
  shorter : (k : K) (n : ℕ) (xs : List X) → length (filter (lacks k) (take n xs)) ≤ n
  shorter k zero xs = omega arith
  shorter k (suc n) [] = omega arith
  shorter k (suc n) (x ∷ xs) = by_test (eq (key x) k) (shorter k n xs)
    where
      by_test : (b : Bool) → length (filter (lacks k) (take n xs)) ≤ n
          → length (cond (not b) (x ∷ filter (lacks k) (take n xs)) (filter (lacks k) (take n xs))) ≤ suc n
      by_test true rest = omega (arith, rest)
      by_test false rest = omega (arith, rest)

  found-shorter : (k : K) (r : ℕ) (xs : List X) (x : X) → find (λ y. eq (key y) k) (take (suc r) xs) ≡ Some x
      → length (filter (lacks k) (take (suc r) xs)) ≤ r
  found-shorter k r [] x e = cc
  found-shorter k r (y ∷ xs) x e = by_test r (eq (key y) k) refl e (λ n. found-shorter k n xs x)
    where
      by_test : (n : ℕ) (b : Bool) → eq (key y) k ≡ b → cond b (Some y) (find (λ z. eq (key z) k) (take n xs)) ≡ Some x
          → ((m : ℕ) → find (λ z. eq (key z) k) (take (suc m) xs) ≡ Some x
          → length (filter (lacks k) (take (suc m) xs)) ≤ m)
          → length (cond (not b) (y ∷ filter (lacks k) (take n xs)) (filter (lacks k) (take n xs))) ≤ n
      by_test n true is h rest = shorter k n xs
      by_test zero false is h rest = cc
      by_test (suc m) false is h rest = let less = rest m h in omega (arith, less)

  used-cut : (r : ℕ) (k : K) (xs : List X) → AreApart xs → AreMade xs
      → used (suc r) (take (suc r) xs) k ≡ take (suc r) (make k ∷ filter (lacks k) xs)
  used-cut r k xs apart all = by_found (find (λ y. eq (key y) k) (take (suc r) xs)) refl
    where
      by_found : (o : Option X) → find (λ y. eq (key y) k) (take (suc r) xs) ≡ o
          → runs.used_by key eq exact same make made (suc r) (take (suc r) xs) k o ≡ make k ∷ take r
          (filter (lacks k) xs)
      by_found (Some x) is =
          ap (λ y. y ∷ filter (lacks k) (take (suc r) xs)) (sym
          (found-made k (take (suc r) xs) x (made-take (suc r) xs all) is))
          ∙ ap (λ ys. make k ∷ ys) (sym (take_all r (filter (lacks k) (take (suc r) xs)) (found-shorter k r xs x is))
          ∙ cut r k xs apart)
      by_found None is =
          let less : suc r - 1 ≡ r = omega arith in
          ap (λ n. make k ∷ take n (take (suc r) xs)) less
          ∙ ap (λ ys. make k ∷ take r ys) (sym (none-found k (take (suc r) xs) is))
          ∙ ap (λ ys. make k ∷ ys) (cut r k xs apart)

  run-cut : (r : ℕ) (xs : List X) (ks : List K) → AreApart xs → AreMade xs
      → used_all (suc r) (take (suc r) xs) ks ≡ take (suc r) (used_whole xs ks)
  run-cut r xs [] apart all = refl
  run-cut r xs (k ∷ ks) apart all =
      ap (λ ys. used_all (suc r) ys ks) (used-cut r k xs apart all)
      ∙ run-cut r (make k ∷ filter (lacks k) xs) ks (apart-first k xs apart) (made-first k xs all)

  -- ---- what stands in front then, and what behind it
  abbrev in_front : List K → List X → List X
  in_front [] xs = xs
  in_front (k ∷ ks) xs = in_front ks (make k ∷ xs)

  -- its key isn't among some
  abbrev outside : List K → X → Bool
  outside ks x = not (list_any (eq (key x)) ks)

  not-or : (a b : Bool) → not (a || b) ≡ (not a && not b)
  not-or true b = refl
  not-or false b = refl

  outside-made : (ks : List K) (k : K) (b : Bool) → list_any (eq k) ks ≡ b → outside ks (make k) ≡ not b
  outside-made ks k b is = ap (λ j. not (list_any (eq j) ks)) (made k) ∙ ap not is

  whole-is : (xs : List X) (ks : List K) → AreNew ks → used_whole xs ks ≡ in_front ks (filter (outside ks) xs)
  whole-is xs [] new = sym (all-pass xs)
    where
      all-pass : (ys : List X) → filter (outside []) ys ≡ ys
      all-pass [] = refl
      all-pass (y ∷ ys) = ap (λ zs. y ∷ zs) (all-pass ys)
  whole-is xs (k ∷ ks) new =
      whole-is (make k ∷ filter (lacks k) xs) ks new.1
      ∙ ap (λ b. in_front ks (cond b (make k ∷ filter (outside ks) (filter (lacks k) xs))
      (filter (outside ks) (filter (lacks k) xs)))) (outside-made ks k false new.0)
      ∙ ap (λ ys. in_front ks (make k ∷ ys)) (filter-filter (outside ks) (lacks k) (outside (k ∷ ks)) xs
      (λ x. not-or (eq (key x) k) (list_any (eq (key x)) ks)))

  -- none of those in front is outside their keys
  front-outside : (all ks : List K) (xs : List X) → AllByRecursion (λ k. list_any (eq k) all ≡ true) ks
      → filter (outside all) (in_front ks xs) ≡ filter (outside all) xs
  front-outside all [] xs among = refl
  front-outside all (k ∷ ks) xs among =
      front-outside all ks (make k ∷ xs) among.1
      ∙ ap (λ b. cond b (make k ∷ filter (outside all) xs) (filter (outside all) xs)) (outside-made all k true among.0)

  among-all : (ks : List K) → AllByRecursion (λ k. list_any (eq k) ks ≡ true) ks
  among-all [] = tt
  among-all (k ∷ ks) = (ap (λ b. b || list_any (eq k) ks) (same k), more ks (among-all ks))
    where
      one : (b : Bool) → (b || true) ≡ true
      one true = refl
      one false = refl

      more : (js : List K) → AllByRecursion (λ j. list_any (eq j) ks ≡ true) js
          → AllByRecursion (λ j. (eq j k || list_any (eq j) ks) ≡ true) js
      more [] all = tt
      more (j ∷ js) all = (ap (λ b. eq j k || b) all.0 ∙ one (eq j k), more js all.1)

  and-itself : (b : Bool) → b ≡ (b && b)
  and-itself true = refl
  and-itself false = refl

  whole-again : (xs : List X) (ks : List K) → AreNew ks → used_whole (used_whole xs ks) ks ≡ used_whole xs ks
  whole-again xs ks new =
      whole-is (used_whole xs ks) ks new
      ∙ ap (in_front ks) (
      ap (filter (outside ks)) (whole-is xs ks new)
      ∙ front-outside ks ks (filter (outside ks) xs) (among-all ks)
      ∙ filter-filter (outside ks) (outside ks) (outside ks) xs (λ x. and-itself (outside ks x)))
      ∙ sym (whole-is xs ks new)

  again-suc : (r : ℕ) (kept : List X) (ks : List K) → length kept ≤ suc r → AreApart kept → AreMade kept → AreNew ks
      → used_all (suc r) (used_all (suc r) kept ks) ks ≡ used_all (suc r) kept ks
  again-suc r kept ks few apart all new =
      let whole : used_all (suc r) kept ks ≡ take (suc r) (used_whole kept ks) =
      ap (λ xs. used_all (suc r) xs ks) (sym (take_all (suc r) kept few)) ∙ run-cut r kept ks apart all in
      ap (λ xs. used_all (suc r) xs ks) whole
      ∙ run-cut r (used_whole kept ks) ks (apart-whole kept ks apart) (made-whole kept ks all)
      ∙ ap (take (suc r)) (whole-again kept ks new)
      ∙ sym whole

  -- what is kept after some keys were used stays when they are used again
  pub used-again : (room : ℕ) (kept : List X) (ks : List K) → 0 < room → length kept ≤ room → AreApart kept
      → AreMade kept → AreNew ks → used_all room (used_all room kept ks) ks ≡ used_all room kept ks
  used-again zero kept ks some few apart all new = let no : ⊥ = omega (arith, some) in absurd no
  used-again (suc r) kept ks some few apart all new = again-suc r kept ks few apart all new

  -- ---- lists of which no two have one key
  pub new-keys : (ks : List K) → IsDistinct eq ks → AreNew ks
  new-keys [] distinct = tt
  new-keys (k ∷ ks) distinct =
      (none ks (IsDistinct-head eq k ks distinct), new-keys ks (IsDistinct-tail eq k ks distinct))
    where
      none : (js : List K) → AllByRecursion (λ j. eq k j ≡ false) js → list_any (eq k) js ≡ false
      none [] all = refl
      none (j ∷ js) all = ap (λ b. b || list_any (eq k) js) all.0 ∙ none js all.1
