-- Of the elements that pass a test the first of the greatest length, found by lengths from the greatest on.
use Rattle.std.proofs.Common.{
  ◌≡◌,
  ℕ,
  ◌≤◌,
  ◌==◌,
  ◌&&◌,
  ◌||◌,
  Bool,
  true,
  false,
  cond,
  nat_le,
  List,
  [],
  ◌∷◌,
  ◌++◌,
  filter,
  find,
  Option,
  Some,
  None,
  refl,
  sym,
  ap,
  ◌∙◌,
  arith,
}
use Rattle.std.specs.List.{AllByRecursion, list_all, list_any}
use Rattle.std.specs.Option.{option_or}
use Rattle.std.proofs.lemmas.Bool.{le-leb, lt-leb, eqb-true, eqb-false, eq-eqb}
use Rattle.resolver_core.specs.Lookups.{IsFalling}

-- what holds of each element by two facts
pub all_both : {X : Type 0} {P Q R : X → Type 0} → ((x : X) → P x → Q x → R x) → (xs : List X) → AllByRecursion P xs
    → AllByRecursion Q xs → AllByRecursion R xs
all_both f [] a b = tt
all_both f (x ∷ xs) a b = (f x a.0 b.0, all_both f xs a.1 b.1)

pub all_by : {X : Type 0} {P Q : X → Type 0} → ((x : X) → P x → Q x) → (xs : List X) → AllByRecursion P xs
    → AllByRecursion Q xs
all_by f [] a = tt
all_by f (x ∷ xs) a = (f x a.0, all_by f xs a.1)

pub all-append : {X : Type 0} (P : X → Type 0) (xs ys : List X) → AllByRecursion P xs → AllByRecursion P ys
    → AllByRecursion P (xs ++ ys)
all-append P [] ys a b = b
all-append P (x ∷ xs) ys a b = (a.0, all-append P xs ys a.1 b)

-- what is found passes
pub find-passes : {X : Type 0} (p : X → Bool) (xs : List X) (x : X) → find p xs ≡ Some x → p x ≡ true
find-passes p [] x h = cc
find-passes {X = X} p (y ∷ ys) x h = by_test (p y) refl h (find-passes p ys x)
  where
    by_test : (b : Bool) → p y ≡ b → cond b (Some y) (find p ys) ≡ Some x → (find p ys ≡ Some x → p x ≡ true)
        → p x ≡ true
    by_test true passes found later = let same : y ≡ x = cc in ap p (sym same) ∙ passes
    by_test false fails found later = later found

-- where nothing is found, each element fails
pub find-none : {X : Type 0} (p : X → Bool) (xs : List X) → find p xs ≡ None → AllByRecursion (λ x. p x ≡ false) xs
find-none p [] h = tt
find-none {X = X} p (x ∷ xs) h = by_test (p x) refl h (find-none p xs)
  where
    by_test : (b : Bool) → p x ≡ b → cond b (Some x) (find p xs) ≡ None
        → (find p xs ≡ None → AllByRecursion (λ y. p y ≡ false) xs) → AllByRecursion (λ y. p y ≡ false) (x ∷ xs)
    by_test true e h rest = cc
    by_test false e h rest = (e, rest h)

-- where each element fails, nothing is found
pub find-fails : {X : Type 0} (p : X → Bool) (xs : List X) → AllByRecursion (λ x. p x ≡ false) xs → find p xs ≡ None
find-fails p [] a = refl
find-fails p (x ∷ xs) a = rw a.0 (find-fails p xs a.1)

-- tests that are alike at each element find the same
pub find-alike : {X : Type 0} (p q : X → Bool) (xs : List X) → AllByRecursion (λ x. p x ≡ q x) xs
    → find p xs ≡ find q xs
find-alike p q [] a = refl
find-alike p q (x ∷ xs) a = rw (a.0, find-alike p q xs a.1) refl

-- a search among what a filter keeps
pub find-filter : {X : Type 0} (p q : X → Bool) (xs : List X) → find p (filter q xs) ≡ find (λ x. q x && p x) xs
find-filter p q [] = refl
find-filter {X = X} p q (x ∷ xs) = by_test (q x) (find-filter p q xs)
  where
    by_test : (b : Bool) → find p (filter q xs) ≡ find (λ x. q x && p x) xs
        → find p (cond b (x ∷ filter q xs) (filter q xs)) ≡ cond (b && p x) (Some x) (find (λ x. q x && p x) xs)
    by_test true rest = ap (λ o. cond (p x) (Some x) o) rest
    by_test false rest = rest

filter-fails : {X : Type 0} (q : X → Bool) (xs : List X) → AllByRecursion (λ x. q x ≡ false) xs → filter q xs ≡ []
filter-fails q [] a = refl
filter-fails q (x ∷ xs) a = rw a.0 (filter-fails q xs a.1)

all-filter : {X : Type 0} (p q : X → Bool) (xs : List X) → AllByRecursion (λ x. q x ≡ true → p x ≡ true) xs
    → list_all p (filter q xs) ≡ true
all-filter p q [] a = refl
all-filter {X = X} p q (x ∷ xs) a = by_test (q x) refl (all-filter p q xs a.1)
  where
    by_test : (b : Bool) → q x ≡ b → list_all p (filter q xs) ≡ true
        → list_all p (cond b (x ∷ filter q xs) (filter q xs)) ≡ true
    by_test true e rest = rw (a.0 e) rest
    by_test false e rest = rest

-- what is found among what a filter keeps passes what all of that pass
all-found : {X : Type 0} (p q r : X → Bool) (xs : List X) (x : X) → find (λ y. q y && r y) xs ≡ Some x
    → list_all p (filter q xs) ≡ true → (p x ≡ true) × (r x ≡ true)
all-found p q r [] x found all = cc
all-found {X = X} p q r (y ∷ ys) x found all = by_test (q y) (r y) refl found all (all-found p q r ys x)
  where
    by_test : (b d : Bool) → r y ≡ d → cond (b && d) (Some y) (find (λ z. q z && r z) ys) ≡ Some x
        → list_all p (cond b (y ∷ filter q ys) (filter q ys)) ≡ true
        → (find (λ z. q z && r z) ys ≡ Some x → list_all p (filter q ys) ≡ true → (p x ≡ true) × (r x ≡ true))
        → (p x ≡ true) × (r x ≡ true)
    by_test true true e found all rest = let same : y ≡ x = cc in rw (← same) (first (p y) refl all, e)
      where
        first : (c : Bool) → p y ≡ c → (c && list_all p (filter q ys)) ≡ true → p y ≡ true
        first true e h = e
        first false e h = cc
    by_test true false e found all rest = rest found (behind (p y) all)
      where
        behind : (c : Bool) → (c && list_all p (filter q ys)) ≡ true → list_all p (filter q ys) ≡ true
        behind true h = h
        behind false h = cc
    by_test false d e found all rest = rest found all

-- each number of a falling list is at most the first
at_most_first : (n m : ℕ) (ns : List ℕ) → IsFalling (n ∷ ns) → list_any (λ l. l == m) (n ∷ ns) ≡ true → m ≤ n
at_most_first n m ns falls has = by_test (n == m) refl has
  where
    among : (ls : List ℕ) → AllByRecursion (λ l. l ≤ n) ls → list_any (λ l. l == m) ls ≡ true → m ≤ n
    among [] a h = cc
    among (l ∷ ls) a h = here (l == m) refl h (among ls a.1)
      where
        here : (b : Bool) → (l == m) ≡ b → (b || list_any (λ k. k == m) ls) ≡ true
            → (list_any (λ k. k == m) ls ≡ true → m ≤ n) → m ≤ n
        here true e h rest = let same : l ≡ m = eqb-true l m e in let le : l ≤ n = a.0 in omega arith
        here false e h rest = rest h

    by_test : (b : Bool) → (n == m) ≡ b → (b || list_any (λ l. l == m) ns) ≡ true → m ≤ n
    by_test true e h = let same : n ≡ m = eqb-true n m e in omega arith
    by_test false e h = among ns falls.0 h

module _ {X : Type 0} (q : X → Bool) (len : X → ℕ) where
  abbrev pub of_length : ℕ → X → Bool
  of_length n x = q x && (len x == n)

  abbrev pub found_by : List X → List ℕ → Option X
  found_by xs [] = None
  found_by xs (n ∷ ns) = option_or (find (of_length n) xs) (found_by xs ns)

  -- none of these is longer
  abbrev pub longest : List X → X → Bool
  longest xs x = list_all (λ y. nat_le (len y) (len x)) xs

  abbrev pub Has : List ℕ → X → Type 0
  Has ns x = q x ≡ true → list_any (λ n. n == len x) ns ≡ true

  pub found_by-longest : (ns : List ℕ) (xs : List X) → IsFalling ns → AllByRecursion (Has ns) xs
      → found_by xs ns ≡ find (longest (filter q xs)) (filter q xs)
  found_by-longest [] xs falls has =
      ap (λ ys. find (longest ys) ys) (sym (filter-fails q xs (all_by (λ x h. fails x (q x) refl h) xs has)))
    where
      fails : (x : X) (b : Bool) → q x ≡ b → (q x ≡ true → false ≡ true) → q x ≡ false
      fails x true e h = let never : false ≡ true = h e in cc
      fails x false e h = e
  found_by-longest (n ∷ ns) xs falls has =
      by_first (find (of_length n) xs) refl (λ others. found_by-longest ns xs falls.1 others)
    where
      others : find (of_length n) xs ≡ None → AllByRecursion (Has ns) xs
      others none = all_both other xs (find-none (of_length n) xs none) has
        where
          other : (x : X) → of_length n x ≡ false → Has (n ∷ ns) x → Has ns x
          other x fails had passes = by_test (n == len x) refl (had passes)
            where
              by_test : (b : Bool) → (n == len x) ≡ b → (b || list_any (λ m. m == len x) ns) ≡ true
                  → list_any (λ m. m == len x) ns ≡ true
              by_test true e h = let same : (len x == n) ≡ true = eq-eqb (len x) n (sym (eqb-true n (len x) e)) in
                  absurd (cc (rw (passes, same) at fails))
              by_test false e h = h

      alike : (x : X) → find (of_length n) xs ≡ Some x → (y : X) → Has (n ∷ ns) y
          → (q y && longest (filter q xs) y) ≡ of_length n y
      alike x found y had = by_test (q y) refl
        where
          short : (q y ≡ true) → len y ≤ n
          short passes = at_most_first n (len y) ns falls (had passes)

          shorter : (z : X) → Has (n ∷ ns) z → len y ≡ n → q z ≡ true → nat_le (len z) (len y) ≡ true
          shorter z has_z same passes = let le : len z ≤ n = at_most_first n (len z) ns falls (has_z passes) in
              le-leb (len z) (len y) (omega arith)

          not_longest : (b : Bool) → longest (filter q xs) y ≡ b → (len y ≡ n → ⊥) → len y ≤ n
              → longest (filter q xs) y ≡ false
          not_longest true e apart le =
              let both = all-found (λ z. nat_le (len z) (len y)) q (λ z. len z == n) xs x found e in
              let same : len x ≡ n = eqb-true (len x) n both.1 in
              let longer : nat_le (len x) (len y) ≡ false = lt-leb (len x) (len y) (omega arith) in
              absurd (cc (both.0, longer))
          not_longest false e apart le = e

          by_length : (b : Bool) → (len y == n) ≡ b → q y ≡ true → longest (filter q xs) y ≡ (len y == n)
          by_length true e passes = rw e (all-filter (λ z. nat_le (len z) (len y)) q xs
              (all_by (λ z h. shorter z h (eqb-true (len y) n e)) xs has))
          by_length false e passes =
              rw e (not_longest (longest (filter q xs) y) refl (eqb-false (len y) n e) (short passes))

          by_test : (b : Bool) → q y ≡ b → (q y && longest (filter q xs) y) ≡ of_length n y
          by_test true e = rw e (by_length (len y == n) refl e)
          by_test false e = rw e refl

      by_first : (o : Option X) → find (of_length n) xs ≡ o
          → (AllByRecursion (Has ns) xs → found_by xs ns ≡ find (longest (filter q xs)) (filter q xs))
          → option_or (find (of_length n) xs) (found_by xs ns) ≡ find (longest (filter q xs)) (filter q xs)
      by_first None e rest = rw e (rest (others e))
      by_first (Some x) e rest = rw e (sym e ∙ sym (find-filter (longest (filter q xs)) q xs
          ∙ find-alike (λ y. q y && longest (filter q xs) y) (of_length n) xs (all_by (alike x e) xs has)))
