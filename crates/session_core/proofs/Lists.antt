-- Lists of entries: what is found, filtered and cut off.
use Rattle.std.proofs.Common.{◌≡◌, ◌≤◌, ◌+◌, ℕ, zero, suc, Bool, true, false, not, cond, List, [], ◌∷◌, take, filter}
use Rattle.std.proofs.Common.{count_by, length, Some, None, refl, sym, ap, ◌∙◌, subst, arith}
use Rattle.std.proofs.lemmas.List.Sums.{length-filter}
use Rattle.std.specs.List.{find, AllByRecursion, IsDistinct}

module _ {X : Type 0} where
  pub find-passes : (p : X → Bool) (xs : List X) (x : X) → find p xs ≡ Some x → p x ≡ true
  find-passes p [] x h = cc
  find-passes p (y ∷ xs) x h = by_test (p y) refl h (find-passes p xs x)
    where
      by_test : (b : Bool) → p y ≡ b → cond b (Some y) (find p xs) ≡ Some x → (find p xs ≡ Some x → p x ≡ true) →
          p x ≡ true
      by_test true e h later = let same : y ≡ x = cc in ap p (sym same) ∙ e
      by_test false e h later = later h

  pub all-find : (p : X → Bool) (P : X → Type 0) (xs : List X) (x : X) → AllByRecursion P xs → find p xs ≡ Some x → P x
  all-find p P [] x all h = cc
  all-find p P (y ∷ xs) x all h = by_test (p y) h (all-find p P xs x all.1)
    where
      by_test : (b : Bool) → cond b (Some y) (find p xs) ≡ Some x → (find p xs ≡ Some x → P x) → P x
      by_test true h later = let same : y ≡ x = cc in subst P same all.0
      by_test false h later = later h

  pub find-none : (p : X → Bool) (xs : List X) → find p xs ≡ None → AllByRecursion (λ x. p x ≡ false) xs
  find-none p [] h = tt
  find-none p (y ∷ xs) h = by_test (p y) refl h (find-none p xs)
    where
      by_test : (b : Bool) → p y ≡ b → cond b (Some y) (find p xs) ≡ None →
          (find p xs ≡ None → AllByRecursion (λ x. p x ≡ false) xs) →
          (p y ≡ false) × AllByRecursion (λ x. p x ≡ false) xs
      by_test true e h later = cc
      by_test false e h later = (e, later h)

  pub all-filter : (p : X → Bool) (P : X → Type 0) (xs : List X) → AllByRecursion P xs → AllByRecursion P (filter p xs)
  all-filter p P [] all = tt
  all-filter p P (y ∷ xs) all = by_test (p y) (all-filter p P xs all.1)
    where
      by_test : (b : Bool) → AllByRecursion P (filter p xs) → AllByRecursion P (cond b (y ∷ filter p xs) (filter p xs))
      by_test true rest = (all.0, rest)
      by_test false rest = rest

  -- what a filter by a failed test leaves fails it
  pub filter-fails : (p : X → Bool) (xs : List X) → AllByRecursion (λ x. p x ≡ false) (filter (λ x. not (p x)) xs)
  filter-fails p [] = tt
  filter-fails p (y ∷ xs) = by_test (p y) refl (filter-fails p xs)
    where
      by_test : (b : Bool) → p y ≡ b → AllByRecursion (λ x. p x ≡ false) (filter (λ x. not (p x)) xs) →
          AllByRecursion (λ x. p x ≡ false) (cond (not b) (y ∷ filter (λ x. not (p x)) xs) (filter (λ x. not (p x)) xs))
      by_test true e rest = rest
      by_test false e rest = (e, rest)

  -- where all fail, nothing is left out
  pub filter-all : (p : X → Bool) (xs : List X) → AllByRecursion (λ x. p x ≡ false) xs → filter (λ x. not (p x)) xs ≡ xs
  filter-all p [] none = refl
  filter-all p (y ∷ xs) none = rw none.0 (ap (λ ys. y ∷ ys) (filter-all p xs none.1))

  pub all-take : (P : X → Type 0) (n : ℕ) (xs : List X) → AllByRecursion P xs → AllByRecursion P (take n xs)
  all-take P zero xs all = tt
  all-take P (suc n) [] all = tt
  all-take P (suc n) (y ∷ xs) all = (all.0, all-take P n xs all.1)

  pub all-map : {P Q : X → Type 0} → ((x : X) → P x → Q x) → (xs : List X) → AllByRecursion P xs → AllByRecursion Q xs
  all-map f [] all = tt
  all-map f (x ∷ xs) all = (f x all.0, all-map f xs all.1)

  pub distinct-filter : (eq : X → X → Bool) (p : X → Bool) (xs : List X) → IsDistinct eq xs →
      IsDistinct eq (filter p xs)
  unfolding IsDistinct
  distinct-filter eq p [] d = tt
  distinct-filter eq p (y ∷ xs) d = by_test (p y) (distinct-filter eq p xs d.1)
    where
      by_test : (b : Bool) → IsDistinct eq (filter p xs) → IsDistinct eq (cond b (y ∷ filter p xs) (filter p xs))
      by_test true rest = (all-filter p (λ z. eq y z ≡ false) xs d.0, rest)
      by_test false rest = rest

  pub distinct-take : (eq : X → X → Bool) (n : ℕ) (xs : List X) → IsDistinct eq xs → IsDistinct eq (take n xs)
  unfolding IsDistinct
  distinct-take eq zero xs d = tt
  distinct-take eq (suc n) [] d = tt
  distinct-take eq (suc n) (y ∷ xs) d = (all-take (λ z. eq y z ≡ false) n xs d.0, distinct-take eq n xs d.1)

  pub length-filter-le : (p : X → Bool) (xs : List X) → length (filter p xs) ≤ length xs
  length-filter-le p [] = omega arith
  length-filter-le p (y ∷ xs) = by_test (p y) (length-filter-le p xs)
    where
      by_test : (b : Bool) → length (filter p xs) ≤ length xs →
          length (cond b (y ∷ filter p xs) (filter p xs)) ≤ length (y ∷ xs)
      by_test true h = omega arith
      by_test false h = omega arith

  -- a list without the ones that pass, of which there is one
  pub length-others : (p : X → Bool) (xs : List X) (x : X) → find p xs ≡ Some x →
      length (filter (λ y. not (p y)) xs) + 1 ≤ length xs
  length-others p [] x h = cc
  length-others p (y ∷ xs) x h = by_test (p y) h (length-others p xs x) (length-filter-le (λ y. not (p y)) xs)
    where
      by_test : (b : Bool) → cond b (Some y) (find p xs) ≡ Some x →
          (find p xs ≡ Some x → length (filter (λ y. not (p y)) xs) + 1 ≤ length xs) →
          length (filter (λ y. not (p y)) xs) ≤ length xs →
          length (cond (not b) (y ∷ filter (λ y. not (p y)) xs) (filter (λ y. not (p y)) xs)) + 1 ≤ length
          (y ∷ xs)
      by_test true h later le = omega arith
      by_test false h later le = let more = later h in omega arith

  both-filters : (p : X → Bool) (xs : List X) → length (filter p xs) + length (filter (λ x. not (p x)) xs) ≡ length xs
  both-filters p [] = omega arith
  both-filters p (y ∷ xs) = by_test (p y) (both-filters p xs)
    where
      by_test : (b : Bool) → length (filter p xs) + length (filter (λ x. not (p x)) xs) ≡ length xs →
          length (cond b (y ∷ filter p xs) (filter p xs)) + length
          (cond (not b) (y ∷ filter (λ x. not (p x)) xs) (filter (λ x. not (p x)) xs)) ≡ length (y ∷ xs)
      by_test true h = omega (arith, h)
      by_test false h = omega (arith, h)

  -- what passes and what fails are all
  pub count-filter : (p : X → Bool) (xs : List X) → count_by p xs + length (filter (λ x. not (p x)) xs) ≡ length xs
  count-filter p xs = ap (λ n. n + length (filter (λ x. not (p x)) xs)) (sym (length-filter p xs)) ∙ both-filters p xs

  pub length-cut : (n : ℕ) (xs : List X) → length (take n xs) ≤ n
  length-cut zero xs = omega arith
  length-cut (suc n) [] = omega arith
  length-cut (suc n) (x ∷ xs) = let le = length-cut n xs in omega arith

  -- what a filter leaves out, another one needn't
  pub filter-less : (p q : X → Bool) (xs : List X) → ((x : X) → q x ≡ true → p x ≡ true) →
      filter (λ x. not (p x)) (filter (λ x. not (q x)) xs) ≡ filter (λ x. not (p x)) xs
  filter-less p q [] less = refl
  filter-less p q (y ∷ xs) less = by_test (q y) refl (filter-less p q xs less)
    where
      by_test : (b : Bool) → q y ≡ b →
          filter (λ x. not (p x)) (filter (λ x. not (q x)) xs) ≡ filter (λ x. not (p x)) xs →
          filter (λ x. not (p x)) (cond (not b) (y ∷ filter (λ x. not (q x)) xs) (filter (λ x. not (q x)) xs))
          ≡ filter (λ x. not (p x)) (y ∷ xs)
      by_test true e rest = rw (less y e) rest
      by_test false e rest = ap (λ ys. cond (not (p y)) (y ∷ ys) ys) rest

  pub none-left : (xs : List X) → length xs ≡ 0 → xs ≡ []
  none-left [] h = refl
  none-left (x ∷ xs) h = absurd (omega arith)
