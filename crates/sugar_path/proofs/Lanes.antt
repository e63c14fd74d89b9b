-- Equal bytes counted by lanes, and a count that goes on behind a block of bytes.
use Rattle.std.proofs.Common.{
  ◌≡◌,
  ◌==◌,
  ℕ,
  zero,
  suc,
  ◌+◌,
  ◌-◌,
  ◌<◌,
  ◌≤◌,
  ◌^◌,
  ◌%◌,
  Bool,
  true,
  false,
  not,
  cond,
  List,
  [],
  ◌∷◌,
  length,
  take,
  drop,
  map,
  min,
  nat_eq,
  refl,
  sym,
  ap,
  ◌∙◌,
  arith,
  zero-add,
  length-drop,
}
use Rattle.std.specs.List.{zip, prefix_len, common_prefix_len}
use Rattle.std.specs.Int.Count.{count_trailing_zeros, trailing_of_zero}
use Rattle.std.specs.Simd.Lanes.{zip2}
use lib.Lanes.{mask_l, top}
use mir.Syntax.{w8}
use Rattle.std.proofs.lemmas.Bool.Decides.{Decides-eqb}
use Rattle.std.proofs.lemmas.List.{length-map, drop-drop, take_all}
use Rattle.std.proofs.lemmas.List.Sums.{prefix_len-le-length, common_prefix_len-le}
use Rattle.std.proofs.lemmas.Simd.{tops_compared, mask_l-mod, first_set_mask_l}
use Rattle.sugar_path.proofs.WayParts.{prefix_len-zip}

abbrev differs : ℕ → ℕ → Bool
differs a b = not (a == b)

-- the lanes as pairs
zip2-zip : (xs ys : List ℕ) → zip2 differs xs ys ≡ map (λ (q : ℕ × ℕ). differs q.0 q.1) (zip xs ys)
zip2-zip [] ys = refl
zip2-zip (x ∷ xs) [] = refl
zip2-zip (x ∷ xs) (y ∷ ys) = ap (λ bs. differs x y ∷ bs) (zip2-zip xs ys)

length-zip : (xs ys : List ℕ) (n : ℕ) → length xs ≡ n → length ys ≡ n → length (zip xs ys) ≡ n
length-zip [] ys n h k = h
length-zip (x ∷ xs) [] n h k = k
length-zip (x ∷ xs) (y ∷ ys) zero h k = absurd (omega (arith, h))
length-zip (x ∷ xs) (y ∷ ys) (suc n) h k = ap suc (length-zip xs ys n (omega (arith, h)) (omega (arith, k)))

equal-twice : (xs ys : List ℕ) → common_prefix_len (λ a b. not (differs a b)) xs ys ≡ common_prefix_len nat_eq xs ys
equal-twice [] ys = refl
equal-twice (x ∷ xs) [] = refl
equal-twice (x ∷ xs) (y ∷ ys) = by_test (x == y) ∙ ap (λ n. cond (x == y) (1 + n) 0) (equal-twice xs ys)
  where
    by_test : (b : Bool) → cond (not (not b)) (1 + common_prefix_len (λ a b. not (differs a b)) xs ys) 0 ≡ cond b
        (1 + common_prefix_len (λ a b. not (differs a b)) xs ys) 0
    by_test true = refl
    by_test false = refl

first-lane : (m n : ℕ) → cond (m == 0) 32 (count_trailing_zeros 64 m) ≡ n → n ≤ 32
    → min (count_trailing_zeros 64 m) 32 ≡ n
first-lane m n first le = by_test (m == 0) refl first
  where
    by_test : (b : Bool) → (m == 0) ≡ b → cond b 32 (count_trailing_zeros 64 m) ≡ n
        → min (count_trailing_zeros 64 m) 32 ≡ n
    by_test true e is = ap (λ k. min (count_trailing_zeros 64 k) 32) ((Decides-eqb m 0).0 e)
        ∙ ap (λ k. min k 32) (trailing_of_zero 64) ∙ is
    by_test false e is = omega (arith, is, le)

-- the first lane that differs, up to 32
pub lanes-equal : (xs ys : List ℕ) → length xs ≡ 32 → length ys ≡ 32
    → min (count_trailing_zeros 64 (mask_l (map (top 7) (zip2 (λ a b. cond (differs a b) 255 0) xs ys)) % 2 ^ 64)) 32 ≡
    common_prefix_len nat_eq xs ys
lanes-equal xs ys h k =
    let p = λ (q : ℕ × ℕ). differs q.0 q.1 in
    let zs = zip xs ys in
    let long = length-zip xs ys 32 h k in
    let lanes : map (top 7) (zip2 (λ a b. cond (differs a b) 255 0) xs ys) ≡ map p zs =
    tops_compared w8 differs xs ys ∙ zip2-zip xs ys in
    let fits : length (map p zs) ≤ 64 = omega (arith, length-map zs p, long) in
    ap (λ ms. min (count_trailing_zeros 64 (mask_l ms % 2 ^ 64)) 32) lanes
    ∙ ap (λ m. min (count_trailing_zeros 64 m) 32) (mask_l-mod (map p zs) 64 fits)
    ∙ first-lane (mask_l (map p zs)) (prefix_len (λ q. not (p q)) zs) (first_set_mask_l p zs 32 long (omega arith))
    (omega (arith, prefix_len-le-length (λ q. not (p q)) zs, long))
    ∙ prefix_len-zip (λ a b. not (differs a b)) xs ys
    ∙ equal-twice xs ys

-- ---- bytes that are equal in a block and behind it
abbrev pub shared : List ℕ → List ℕ → ℕ
shared xs ys = common_prefix_len nat_eq xs ys

-- the block tells where the first byte differs, or that the count goes on behind it
abbrev pub TellsBlock : ℕ → List ℕ → List ℕ → ℕ → Type 0
TellsBlock n xs ys k =
    (k ≤ n) × (k < n → shared xs ys ≡ k) × (n ≤ k → shared xs ys ≡ n + shared (drop n xs) (drop n ys))

pub block-tells : (n : ℕ) (xs ys : List ℕ) → n ≤ length xs → n ≤ length ys
    → TellsBlock n xs ys (shared (take n xs) (take n ys))
block-tells zero xs ys h k = (omega arith, λ lt. absurd (omega arith), λ le. sym (zero-add (shared xs ys)))
block-tells (suc n) [] ys h k = absurd (omega arith)
block-tells (suc n) (x ∷ xs) [] h k = absurd (omega arith)
block-tells (suc n) (x ∷ xs) (y ∷ ys) h k = by_test (x == y) (block-tells n xs ys (omega arith) (omega arith))
  where
    by_test : (b : Bool) → TellsBlock n xs ys (shared (take n xs) (take n ys))
        → (cond b (1 + shared (take n xs) (take n ys)) 0 ≤ suc n)
        × (cond b (1 + shared (take n xs) (take n ys)) 0 < suc n
        → cond b (1 + shared xs ys) 0 ≡ cond b (1 + shared (take n xs) (take n ys)) 0)
        × (suc n ≤ cond b (1 + shared (take n xs) (take n ys)) 0
        → cond b (1 + shared xs ys) 0 ≡ suc n + shared (drop n xs) (drop n ys))
    by_test true w = (
      omega (arith, w.0),
      λ lt. ap (λ m. 1 + m) (w.1 (omega (arith, lt))),
      λ le. let is =
          w.2 (omega (arith, le)) in omega (arith, is),
    )
    by_test false w = (omega arith, λ lt. refl, λ le. absurd (omega (arith, le)))

-- what a block tells where the count went on to some place
pub block-at : (at end : ℕ) (xs ys : List ℕ) (k : ℕ) → 32 ≤ end - at → end ≡ min (length xs) (length ys)
    → k ≡ shared (take 32 (drop at xs)) (take 32 (drop at ys)) → TellsBlock 32 (drop at xs) (drop at ys) k
block-at at end xs ys k room ends is =
    let left : 32 ≤ length (drop at xs) = omega (arith, length-drop at xs, room, ends) in
    let right : 32 ≤ length (drop at ys) = omega (arith, length-drop at ys, room, ends) in
    rw is (block-tells 32 (drop at xs) (drop at ys) left right)

pub block-next : (at all : ℕ) (xs ys : List ℕ) → at + shared (drop at xs) (drop at ys) ≡ all
    → shared (drop at xs) (drop at ys) ≡ 32 + shared (drop 32 (drop at xs)) (drop 32 (drop at ys))
    → (at + 32) + shared (drop (at + 32) xs) (drop (at + 32) ys) ≡ all
block-next at all xs ys so_far more =
    let behind : shared (drop (at + 32) xs) (drop (at + 32) ys) ≡ shared (drop 32 (drop at xs)) (drop 32 (drop at ys)) =
    ap (λ zs. shared zs (drop (at + 32) ys)) (sym (drop-drop 32 at xs))
    ∙ ap (shared (drop 32 (drop at xs))) (sym (drop-drop 32 at ys)) in
    omega (arith, so_far, more, behind)

-- the bytes behind the last block are counted to the end of both
pub rest-le : (at end k : ℕ) (xs ys : List ℕ) → end ≡ min (length xs) (length ys)
    → at + shared (drop at xs) (drop at ys) ≡ shared xs ys
    → k ≡ shared (take (length xs - at) (drop at xs)) (take (length ys - at) (drop at ys)) → at + k ≤ end
rest-le at end k xs ys ends so_far is =
    let left = take_all (length xs - at) (drop at xs) (omega (arith, length-drop at xs)) in
    let right = take_all (length ys - at) (drop at ys) (omega (arith, length-drop at ys)) in
    let rest : k ≡ shared (drop at xs) (drop at ys) =
    is ∙ ap (λ zs. shared zs (take (length ys - at) (drop at ys))) left ∙ ap (shared (drop at xs)) right in
    let le = common_prefix_len-le nat_eq xs ys in
    omega (arith, rest, so_far, le.0, le.1, ends)
