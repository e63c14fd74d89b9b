-- Look-ups are kept for one more pattern, and the lengths in a falling list.
use Rattle.std.proofs.Common.{
  ◌≡◌,
  ℕ,
  ◌<◌,
  ◌≤◌,
  ◌==◌,
  ◌||◌,
  Bool,
  true,
  false,
  cond,
  nat_lt,
  List,
  [],
  ◌∷◌,
  ◌++◌,
  length,
  reverse,
  bytes_eq,
  refl,
  sym,
  ap,
  ◌∙◌,
  arith,
  if◌then◌else◌,
  zero-add,
}
use Rattle.std.specs.BTreeSet.{insert_key}
use Rattle.std.specs.declared.cmp.Ordering.TheVariants.{Less, Equal, Greater}
use Rattle.std.specs.List.{AllByRecursion, list_any}
use Rattle.std.specs.List.Sorted.{IsStrictlySortedBy}
use Rattle.std.specs.Ordering.{nat_cmp, match_ordering}
use Rattle.std.proofs.lemmas.Bool.{ltb-true, eqb-true, eq-eqb}
use Rattle.std.proofs.lemmas.List.{append-nil, reverse-append}
use Rattle.std.proofs.lemmas.List.Folds.{list_any-append}
use Rattle.resolver_core.specs.declared.pattern.Pattern.{Pattern}
use Rattle.resolver_core.specs.declared.pattern.Pattern.TheVariants.{Exact, Starred}
use Rattle.resolver_core.specs.declared.pattern.Wildcard.{Wildcard}
use Rattle.resolver_core.specs.Pattern.{is_exactly}
use Rattle.resolver_core.specs.Lookups.{Kept, places_at, places_from, is_behind, HasLength, IsFalling, IsKeptFor}
use Rattle.resolver_core.proofs.Listings.{one_more, places-push}
use Rattle.resolver_core.proofs.Longest.{all-append, all_by}

-- one more place under a text, as a call keeps it
abbrev pub KeepsMore : Kept → Kept → List ℕ → ℕ → Type 0
KeepsMore old new text place =
    (q : List ℕ) → places_at new q ≡ places_at old q ++ (if bytes_eq q text then (place ∷ []) else [])

places-more : (test : Pattern → Bool) (ps : List Pattern) (p : Pattern) (place : ℕ) → length ps ≡ place
    → places_from test 0 (ps ++ p ∷ []) ≡ places_from test 0 ps ++ one_more test place p
places-more test ps p place len =
    places-push test 0 ps p ∙ ap (λ n. places_from test 0 ps ++ one_more test n p) (zero-add (length ps) ∙ len)

pub kept-exact : (ps : List Pattern) (text target : List ℕ) (place : ℕ) (exact more starred : Kept) (lengths : List ℕ)
    → KeepsMore exact more text place → length ps ≡ place → IsKeptFor ps exact starred lengths
    → IsKeptFor (ps ++ Exact text target ∷ []) more starred lengths
kept-exact ps text target place exact more starred lengths keeps len kept = record {
  exactly = λ q. keeps q ∙ ap (λ ns. ns ++ one_more (is_exactly q) place (Exact text target)) (kept.exactly q)
      ∙ sym (places-more (is_exactly q) ps (Exact text target) place len);
  behind = λ q. kept.behind q ∙ sym (places-more (is_behind q) ps (Exact text target) place len
      ∙ append-nil (places_from (is_behind q) 0 ps));
  known = all-append (HasLength lengths) ps (Exact text target ∷ []) kept.known (tt, tt);
}

-- a length that is put in is there, and the others stay
any-insert : (ks : List ℕ) (k n : ℕ) → list_any (λ l. l == n) (insert_key nat_cmp ks k) ≡
    ((k == n) || list_any (λ l. l == n) ks)
any-insert [] k n = refl
any-insert (x ∷ xs) k n = by_tests (nat_lt k x) (k == x) refl (any-insert xs k n)
  where
    twice : (a b : Bool) → (a || b) ≡ (a || (a || b))
    twice true b = refl
    twice false b = refl

    swap : (a b c : Bool) → (a || (b || c)) ≡ (b || (a || c))
    swap true true c = refl
    swap true false c = refl
    swap false b c = refl

    by_tests : (lt eq : Bool) → (k == x) ≡ eq
        → list_any (λ l. l == n) (insert_key nat_cmp xs k) ≡ ((k == n) || list_any (λ l. l == n) xs)
        → list_any (λ l. l == n) (match_ordering (cond lt Less (cond eq Equal Greater)) (k ∷ x ∷ xs) (x ∷ xs)
        (x ∷ insert_key nat_cmp xs k)) ≡ ((k == n) || ((x == n) || list_any (λ l. l == n) xs))
    by_tests true eq e rest = refl
    by_tests false true e rest =
        let same : k ≡ x = eqb-true k x e in rw same (twice (x == n) (list_any (λ l. l == n) xs))
    by_tests false false e rest = ap (λ b. (x == n) || b) rest ∙ swap (x == n) (k == n) (list_any (λ l. l == n) xs)

has-insert : (ks : List ℕ) (k : ℕ) (p : Pattern) → HasLength ks p → HasLength (insert_key nat_cmp ks k) p
has-insert ks k (Exact text target) h = tt
has-insert ks k (Starred w) h =
    any-insert ks k (length w.prefix) ∙ or-true (k == length w.prefix) (list_any (λ l. l == length w.prefix) ks) h
  where
    or-true : (a b : Bool) → b ≡ true → (a || b) ≡ true
    or-true true b e = refl
    or-true false b e = e

pub kept-starred : (ps : List Pattern) (w : Wildcard) (place : ℕ) (exact starred more : Kept) (lengths : List ℕ)
    → KeepsMore starred more w.prefix place → length ps ≡ place → IsKeptFor ps exact starred lengths
    → IsKeptFor (ps ++ Starred w ∷ []) exact more (insert_key nat_cmp lengths (length w.prefix))
kept-starred ps w place exact starred more lengths keeps len kept = record {
  exactly = λ q. kept.exactly q ∙ sym (places-more (is_exactly q) ps (Starred w) place len
      ∙ append-nil (places_from (is_exactly q) 0 ps));
  behind = λ q. keeps q ∙ ap (λ ns. ns ++ one_more (is_behind q) place (Starred w)) (kept.behind q)
      ∙ sym (places-more (is_behind q) ps (Starred w) place len);
  known = all-append (HasLength (insert_key nat_cmp lengths (length w.prefix))) ps (Starred w ∷ [])
      (all_by (λ p h. has-insert lengths (length w.prefix) p h) ps kept.known) (itself, tt);
}
  where
    itself : list_any (λ l. l == length w.prefix) (insert_key nat_cmp lengths (length w.prefix)) ≡ true
    itself = any-insert lengths (length w.prefix) (length w.prefix)
        ∙ ap (λ b. b || list_any (λ l. l == length w.prefix) lengths) (eq-eqb (length w.prefix) (length w.prefix) refl)

reverse-cons : {X : Type 0} (x : X) (xs : List X) → reverse (x ∷ xs) ≡ reverse xs ++ x ∷ []
reverse-cons x xs = reverse-append (x ∷ []) xs

all-reverse : {X : Type 0} (P : X → Type 0) (xs : List X) → AllByRecursion P xs → AllByRecursion P (reverse xs)
all-reverse P [] a = tt
all-reverse P (x ∷ xs) a = rw (reverse-cons x xs) (all-append P (reverse xs) (x ∷ []) (all-reverse P xs a.1) (a.0, tt))

falling-push : (ns : List ℕ) (x : ℕ) → IsFalling ns → AllByRecursion (λ m. x ≤ m) ns → IsFalling (ns ++ x ∷ [])
falling-push [] x falls a = (tt, tt)
falling-push (n ∷ ns) x falls a = (all-append (λ m. m ≤ n) ns (x ∷ []) falls.0 (a.0, tt), falling-push ns x falls.1 a.1)

at_most : (x y : ℕ) → nat_cmp x y ≡ Less → x ≤ y
at_most x y h = by_tests (nat_lt x y) (x == y) refl h
  where
    by_tests : (lt eq : Bool) → nat_lt x y ≡ lt → cond lt Less (cond eq Equal Greater) ≡ Less → x ≤ y
    by_tests true eq e h = let below : x < y = ltb-true x y e in omega arith
    by_tests false true e h = cc
    by_tests false false e h = cc

-- rising numbers the other way round fall
pub falling-reverse : (ks : List ℕ) → IsStrictlySortedBy nat_cmp ks → IsFalling (reverse ks)
unfolding IsStrictlySortedBy
falling-reverse [] sorted = tt
falling-reverse (x ∷ xs) sorted = rw (reverse-cons x xs) (falling-push (reverse xs) x (falling-reverse xs sorted.1)
    (all-reverse (λ m. x ≤ m) xs (all_by (λ y h. at_most x y h) xs sorted.0)))

any-reverse : (p : ℕ → Bool) (xs : List ℕ) → list_any p (reverse xs) ≡ list_any p xs
any-reverse p [] = refl
any-reverse p (x ∷ xs) =
    rw (reverse-cons x xs, list_any-append p (reverse xs) (x ∷ []), any-reverse p xs) (swap (list_any p xs) (p x))
  where
    swap : (a b : Bool) → (a || (b || false)) ≡ (b || a)
    swap true true = refl
    swap true false = refl
    swap false true = refl
    swap false false = refl

-- what is kept stays so with the lengths the other way round
pub kept-reverse : (ps : List Pattern) (exact starred : Kept) (lengths others : List ℕ) → others ≡ reverse lengths
    → IsKeptFor ps exact starred lengths → IsKeptFor ps exact starred others
kept-reverse ps exact starred lengths others is kept = record {
  exactly = kept.exactly;
  behind = kept.behind;
  known = rw is (all_by has ps kept.known);
}
  where
    has : (p : Pattern) → HasLength lengths p → HasLength (reverse lengths) p
    has (Exact text target) h = tt
    has (Starred w) h = any-reverse (λ l. l == length w.prefix) lengths ∙ h

pub kept-none : IsKeptFor [] [] [] []
kept-none = record { exactly = λ q. refl; behind = λ q. refl; known = tt }
