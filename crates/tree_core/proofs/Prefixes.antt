-- Texts that begin with a text, in byte order.
use Rattle.std.proofs.Common.{
  ◌≡◌,
  ◌<◌,
  ◌&&◌,
  ℕ,
  Bool,
  true,
  false,
  List,
  [],
  ◌∷◌,
  ◌++◌,
  drop,
  length,
  nat_eq,
  refl,
  arith,
}
use Rattle.std.specs.List.{starts_with}
use Rattle.std.specs.Ordering.{nat_cmp, is_le, ordering_then}
use Rattle.std.specs.Cmp.{ranked}
use Rattle.std.specs.Cmp.Lexicographic.{slice_cmp}
use Rattle.std.specs.declared.cmp.Ordering.{Ordering}
use Rattle.std.specs.declared.cmp.Ordering.TheVariants.{Less, Equal, Greater}
use Rattle.std.proofs.lemmas.Bool.Decides.{Decides-eqb}
use Rattle.sugar_path.proofs.Bools.{and_left, and_right}

-- a text stands no later than those that begin with it
pub is_le-prefix : (pre k : List ℕ) → starts_with nat_eq k pre ≡ true → is_le (slice_cmp nat_cmp pre k) ≡ true
is_le-prefix [] [] h = refl
is_le-prefix [] (z ∷ k) h = refl
is_le-prefix (x ∷ pre) [] h = cc
is_le-prefix (x ∷ pre) (z ∷ k) h =
    by_rank (nat_cmp x z) refl ((Decides-eqb x z).0 (and_left (nat_eq x z) _ h))
    (is_le-prefix pre k (and_right (nat_eq x z) _ h))
  where
    by_rank : (r : Ordering) → r ≡ nat_cmp x z → x ≡ z → is_le (slice_cmp nat_cmp pre k) ≡ true
        → is_le (ordering_then r (slice_cmp nat_cmp pre k)) ≡ true
    by_rank Less e same rest = refl
    by_rank Equal e same rest = rest
    by_rank Greater e same rest = let lt : z < x = ranked x z Greater e in absurd (omega arith)

-- what stands between a text and one that begins with it begins with it too
pub starts_with-between : (pre k q : List ℕ) → is_le (slice_cmp nat_cmp pre k) ≡ true → slice_cmp nat_cmp k q ≡ Less
    → starts_with nat_eq q pre ≡ true → starts_with nat_eq k pre ≡ true
starts_with-between [] k q le lt h = refl
starts_with-between (x ∷ pre) [] q le lt h = cc
starts_with-between (x ∷ pre) (z ∷ k) [] le lt h = cc
starts_with-between (x ∷ pre) (z ∷ k) (y ∷ q) le lt h =
    by_ranks (nat_cmp x z) (nat_cmp z y) refl refl ((Decides-eqb x y).0 (and_left (nat_eq x y) _ h))
    (λ le lt. starts_with-between pre k q le lt (and_right (nat_eq x y) _ h)) le lt
  where
    by_ranks : (r s : Ordering) → r ≡ nat_cmp x z → s ≡ nat_cmp z y → x ≡ y
        → (is_le (slice_cmp nat_cmp pre k) ≡ true → slice_cmp nat_cmp k q ≡ Less → starts_with nat_eq k pre ≡ true)
        → is_le (ordering_then r (slice_cmp nat_cmp pre k)) ≡ true → ordering_then s (slice_cmp nat_cmp k q) ≡ Less
        → starts_with nat_eq (z ∷ k) (x ∷ pre) ≡ true
    by_ranks Less Less e f same rest le lt =
        let a : x < z = ranked x z Less e in let b : z < y = ranked z y Less f in absurd (omega arith)
    by_ranks Less Equal e f same rest le lt =
        let a : x < z = ranked x z Less e in let b : z ≡ y = ranked z y Equal f in absurd (omega arith)
    by_ranks Less Greater e f same rest le lt = cc
    by_ranks Equal Less e f same rest le lt =
        let a : x ≡ z = ranked x z Equal e in let b : z < y = ranked z y Less f in absurd (omega arith)
    by_ranks Equal Equal e f same rest le lt =
        let a : x ≡ z = ranked x z Equal e in rw ((Decides-eqb x z).1 a) (rest le lt)
    by_ranks Equal Greater e f same rest le lt = cc
    by_ranks Greater s e f same rest le lt = cc

-- what begins with two texts in a row begins with the first, and goes on with the second
pub starts_with-append : (pre more k : List ℕ)
    → starts_with nat_eq k (pre ++ more) ≡ (starts_with nat_eq k pre && starts_with nat_eq (drop (length pre) k) more)
starts_with-append [] more k = refl
starts_with-append (x ∷ pre) more [] = refl
starts_with-append (x ∷ pre) more (z ∷ k) = by_test (nat_eq x z) (starts_with-append pre more k)
  where
    by_test : (b : Bool) → starts_with nat_eq k (pre ++ more) ≡
        (starts_with nat_eq k pre && starts_with nat_eq (drop (length pre) k) more)
        → (b && starts_with nat_eq k (pre ++ more)) ≡ ((b && starts_with nat_eq k pre)
        && starts_with nat_eq (drop (length pre) k) more)
    by_test true rest = rest
    by_test false rest = refl
