-- Where something stands first in a list.
use Rattle.std.proofs.Common.{
  ◌≡◌,
  ◌+◌,
  ℕ,
  zero,
  suc,
  Bool,
  true,
  false,
  cond,
  ◌||◌,
  List,
  [],
  ◌∷◌,
  ◌++◌,
  length,
  Option,
  Some,
  None,
  refl,
  sym,
  ap,
  ◌∙◌,
  arith,
  take,
  get_or,
  ◌<◌,
  ◌≤◌,
}
use Rattle.std.specs.Prelude.{find, min, option_map, option_and_then, slice_get}
use Rattle.std.specs.Option.{option_or}
use Rattle.std.proofs.lemmas.List.{length-take, take_more}
use Rattle.lock_checks.specs.Places.{earlier, first_place}

later_or : (o p : Option ℕ) → option_map suc (option_or o p) ≡ option_or (option_map suc o) (option_map suc p)
later_or None p = refl
later_or (Some i) p = refl

later_at : (b : Bool) (n : ℕ) → option_map suc (cond b (Some n) None) ≡ cond b (Some (suc n)) None
later_at true n = refl
later_at false n = refl

-- the place in a list that is one longer
pub first_place-push : {A : Type 0} (test : A → Bool) (xs : List A) (x : A)
    → first_place test (xs ++ x ∷ []) ≡ option_or (first_place test xs) (cond (test x) (Some (length xs)) None)
first_place-push test [] x = refl
first_place-push test (y ∷ ys) x = by_test (test y) (first_place-push test ys x)
  where
    by_test : (b : Bool) → first_place test (ys ++ x ∷ []) ≡ option_or (first_place test ys)
        (cond (test x) (Some (length ys)) None)
        → cond b (Some 0) (option_map suc (first_place test (ys ++ x ∷ []))) ≡ option_or
        (cond b (Some 0) (option_map suc (first_place test ys))) (cond (test x) (Some (suc (length ys))) None)
    by_test true later = refl
    by_test false later = ap (option_map suc) later
        ∙ later_or (first_place test ys) (cond (test x) (Some (length ys)) None)
        ∙ ap (option_or (option_map suc (first_place test ys))) (later_at (test x) (length ys))

get_later : {A : Type 0} (x : A) (xs : List A) (o : Option ℕ)
    → option_and_then (slice_get (x ∷ xs)) (option_map suc o) ≡ option_and_then (slice_get xs) o
get_later x xs None = refl
get_later x xs (Some i) = refl

-- what stands at the first place is the first that passes
pub find-first_place : {A : Type 0} (test : A → Bool) (xs : List A)
    → option_and_then (slice_get xs) (first_place test xs) ≡ find test xs
find-first_place test [] = refl
find-first_place test (x ∷ xs) = by_test (test x) (find-first_place test xs)
  where
    by_test : (b : Bool) → option_and_then (slice_get xs) (first_place test xs) ≡ find test xs
        → option_and_then (slice_get (x ∷ xs)) (cond b (Some 0) (option_map suc (first_place test xs))) ≡ cond b
        (Some x) (find test xs)
    by_test true later = refl
    by_test false later = get_later x xs (first_place test xs) ∙ later

min-suc : (i j : ℕ) → min (suc i) (suc j) ≡ suc (min i j)
min-suc i j = omega arith

earlier_later : (o p : Option ℕ) → earlier (option_map suc o) (option_map suc p) ≡ option_map suc (earlier o p)
earlier_later None p = refl
earlier_later (Some i) None = refl
earlier_later (Some i) (Some j) = ap Some (min-suc i j)

earlier-first : (o : Option ℕ) → earlier (Some 0) o ≡ Some 0
earlier-first None = refl
earlier-first (Some j) = ap Some (let h : min 0 j ≡ 0 = omega arith in h)

earlier-behind : (o : Option ℕ) → earlier (option_map suc o) (Some 0) ≡ Some 0
earlier-behind None = refl
earlier-behind (Some i) = ap Some (let h : min (suc i) 0 ≡ 0 = omega arith in h)

-- of two tests one passes first
pub first_place-or : {A : Type 0} (one other : A → Bool) (xs : List A)
    → first_place (λ x. one x || other x) xs ≡ earlier (first_place one xs) (first_place other xs)
first_place-or one other [] = refl
first_place-or one other (x ∷ xs) = by_tests (one x) (other x) (first_place-or one other xs)
  where
    by_tests : (b c : Bool) → first_place (λ y. one y || other y) xs ≡ earlier (first_place one xs)
        (first_place other xs) → cond (b || c) (Some 0) (option_map suc (first_place (λ y. one y || other y) xs)) ≡
        earlier (cond b (Some 0) (option_map suc (first_place one xs)))
        (cond c (Some 0) (option_map suc (first_place other xs)))
    by_tests true c later = sym (earlier-first (cond c (Some 0) (option_map suc (first_place other xs))))
    by_tests false true later = sym (earlier-behind (first_place one xs))
    by_tests false false later =
        ap (option_map suc) later ∙ sym (earlier_later (first_place one xs) (first_place other xs))

-- a test that nothing passes
pub first_place-never : {A : Type 0} (test : A → Bool) (xs : List A) → ((x : A) → test x ≡ false)
    → first_place test xs ≡ None
first_place-never test [] never = refl
first_place-never test (x ∷ xs) never = rw (never x, first_place-never test xs never) refl

-- two tests that pass the same
pub first_place-same : {A : Type 0} (one other : A → Bool) (xs : List A) → ((x : A) → one x ≡ other x)
    → first_place one xs ≡ first_place other xs
first_place-same one other [] same = refl
first_place-same one other (x ∷ xs) same = rw (same x, first_place-same one other xs same) refl

-- How two keys are compared, where that decides whether they are equal.
pub record IsKeyed {Q : Type 0} (same : Q → Q → Bool) : Type 0 where
  pub is : (q r : Q) → same q r ≡ true → q ≡ r
  pub self : (q : Q) → same q q ≡ true

-- such a test is symmetric
pub swapped : {Q : Type 0} (same : Q → Q → Bool) → IsKeyed same → (q r : Q) → same q r ≡ same r q
swapped same keyed q r = by_test (same q r) (same r q) refl refl
  where
    by_test : (b c : Bool) → same q r ≡ b → same r q ≡ c → b ≡ c
    by_test true true h k = refl
    by_test false false h k = refl
    by_test true false h k = sym (keyed.self r) ∙ ap (λ x. same r x) (sym (keyed.is q r h)) ∙ k
    by_test false true h k = sym h ∙ ap (λ x. same q x) (keyed.is r q k) ∙ keyed.self q

or_none : (o : Option ℕ) → o ≡ option_or o None
or_none None = refl
or_none (Some i) = refl

-- A key that stands nowhere yet is noted at the place of the next element.
pub noted : {A Q : Type 0} (same : Q → Q → Bool) (key : A → Q) → IsKeyed same
    → (old new : Q → Option ℕ) (xs : List A) (x : A)
    → ((q : Q) → old q ≡ first_place (λ a. same q (key a)) xs)
    → old (key x) ≡ None
    → ((q : Q) → new q ≡ cond (same (key x) q) (Some (length xs)) (old q))
    → (q : Q) → new q ≡ first_place (λ a. same q (key a)) (xs ++ x ∷ [])
noted {Q = Q} same key keyed old new xs x places absent puts q =
    puts q ∙ by_test (same (key x) q) refl ∙ ap (λ o. option_or o (cond (same q (key x)) (Some (length xs)) None))
    (places q) ∙ sym (first_place-push (λ a. same q (key a)) xs x)
  where
    by_test : (b : Bool) → same (key x) q ≡ b
        → cond b (Some (length xs)) (old q) ≡ option_or (old q) (cond (same q (key x)) (Some (length xs)) None)
    by_test true h = rw (sym (keyed.is (key x) q h), absent, keyed.self (key x)) refl
    by_test false h = rw (swapped same keyed q (key x) ∙ h) (or_none (old q))

-- A key that stands somewhere stays there.
pub kept : {A Q : Type 0} (same : Q → Q → Bool) (key : A → Q) → IsKeyed same
    → (old : Q → Option ℕ) (xs : List A) (x : A) (i : ℕ)
    → ((q : Q) → old q ≡ first_place (λ a. same q (key a)) xs)
    → old (key x) ≡ Some i
    → (q : Q) → old q ≡ first_place (λ a. same q (key a)) (xs ++ x ∷ [])
kept same key keyed old xs x i places there q =
    by_test (same q (key x)) refl ∙ ap (λ o. option_or o (cond (same q (key x)) (Some (length xs)) None)) (places q)
    ∙ sym (first_place-push (λ a. same q (key a)) xs x)
  where
    by_test : (b : Bool) → same q (key x) ≡ b → old q ≡ option_or (old q) (cond b (Some (length xs)) None)
    by_test true h = rw (keyed.is q (key x) h, there) refl
    by_test false h = or_none (old q)

-- a walk over a list notes the place of an element whose key stands nowhere yet
pub noted_at : {A Q : Type 0} (same : Q → Q → Bool) (key : A → Q) → IsKeyed same
    → (old new : Q → Option ℕ) (xs : List A) (i : ℕ) (x : A)
    → i < length xs → x ≡ get_or xs i x
    → ((q : Q) → old q ≡ first_place (λ a. same q (key a)) (take i xs))
    → old (key x) ≡ None
    → ((q : Q) → new q ≡ cond (same (key x) q) (Some i) (old q))
    → (q : Q) → new q ≡ first_place (λ a. same q (key a)) (take (i + 1) xs)
noted_at same key keyed old new xs i x inside at places absent puts q =
    let count : length (take i xs) ≡ i = omega (arith, length-take i xs) in
    noted same key keyed old new (take i xs) x places absent
    (λ r. puts r ∙ ap (λ n. cond (same (key x) r) (Some n) (old r)) (sym count)) q
    ∙ ap (λ ys. first_place (λ a. same q (key a)) ys) (ap (λ y. take i xs ++ y ∷ []) at ∙ sym (take_more xs i x inside))

-- and at one whose key stands somewhere
pub kept_at : {A Q : Type 0} (same : Q → Q → Bool) (key : A → Q) → IsKeyed same
    → (old : Q → Option ℕ) (xs : List A) (i : ℕ) (x : A) (j : ℕ)
    → i < length xs → x ≡ get_or xs i x
    → ((q : Q) → old q ≡ first_place (λ a. same q (key a)) (take i xs))
    → old (key x) ≡ Some j
    → (q : Q) → old q ≡ first_place (λ a. same q (key a)) (take (i + 1) xs)
kept_at same key keyed old xs i x j inside at places there q =
    kept same key keyed old (take i xs) x j places there q
    ∙ ap (λ ys. first_place (λ a. same q (key a)) ys) (ap (λ y. take i xs ++ y ∷ []) at ∙ sym (take_more xs i x inside))

-- what is taken of a list from the front up to its end
pub take_whole : {A : Type 0} (xs : List A) (i : ℕ) → length xs ≤ i → take i xs ≡ xs
take_whole [] zero h = refl
take_whole [] (suc i) h = refl
take_whole (x ∷ xs) zero h = absurd (omega arith)
take_whole (x ∷ xs) (suc i) h = ap (λ ys. x ∷ ys) (take_whole xs i (omega (arith, h)))
