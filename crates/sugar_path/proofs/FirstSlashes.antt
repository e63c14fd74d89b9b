-- The first slash of a path: in a short one, in the first block of a long one, or behind that block.
use Rattle.std.proofs.Common.{
  ◌≡◌,
  ◌≢◌,
  ◌==◌,
  ◌⊎◌,
  inl,
  inr,
  ℕ,
  suc,
  ◌+◌,
  ◌*◌,
  ◌-◌,
  ◌<◌,
  ◌≤◌,
  Bool,
  true,
  false,
  true≢false,
  not,
  cond,
  List,
  [],
  ◌∷◌,
  length,
  map,
  get_or,
  take,
  drop,
  refl,
  sym,
  ap,
  ◌∙◌,
  subst,
  arith,
  length-drop,
}
use Rattle.std.specs.Prelude.{Option, Some, None, MatchOption}
use Rattle.std.proofs.Math.Dec.{leb}
use Rattle.std.specs.Int.Count.{count_trailing_zeros}
use Rattle.std.specs.List.{AllWithin, HoldsAt, prefix_len}
use lib.Lanes.{mask_l}
use Rattle.std.proofs.lemmas.Bool.Decides.{leb_tells}
use Rattle.std.proofs.lemmas.List.{get_or-drop, length-take-le, take_all}
use Rattle.std.proofs.lemmas.Simd.{trailing_mask_l, run_in_chunk_fails, run_in_chunk_stops, none_from_empty_mask}
use Rattle.memchr.specs.Find.{IsFirstByte, Passes, is_byte}

abbrev slash : ℕ → Bool
slash b = b == 47

-- no byte up to a place is a slash
abbrev HasNone : List ℕ → ℕ → Type 0
HasNone t n = (k : ℕ) → k < n → slash (get_or t k 0) ≡ false

not-both : (b : Bool) → b ≡ false → b ≡ true → ⊥
not-both b lacks has = true≢false (sym has ∙ lacks)

found : (t : List ℕ) (at : ℕ) → at < length t → HasNone t at → slash (get_or t at 0) ≡ true
    → IsFirstByte (is_byte 47) t (Some at)
found t at lt none is =
    (record { low = omega arith; high = lt; before = λ k ge below. not-both (slash (get_or t k 0)) (none k below) }, is)

-- ---- byte by byte
pub one-by-one : (t : List ℕ) (r : Option ℕ) → MatchOption r (AllWithin (λ y. false ≡ (y == 47)) t 0 (length t))
    (λ i. (i < length t) × HoldsAt (λ y. true ≡ (y == 47)) t i × AllWithin (λ y. false ≡ (y == 47)) t 0 i)
    → IsFirstByte (is_byte 47) t r
one-by-one t None none = λ k ge lt. not-both (slash (get_or t k 0)) (sym (none k 0 (omega arith) lt))
one-by-one t (Some at) (lt, is, none) = found t at lt (λ k below. sym (none k 0 (omega arith) below)) (sym (is 0))

-- ---- the first block
abbrev pub slashes : ℕ → List ℕ → ℕ
slashes n t = mask_l (map slash (take n t))

empty-mask : (xs : List ℕ) → length xs ≤ prefix_len (λ x. not (slash x)) xs → mask_l (map slash xs) ≡ 0
empty-mask [] h = refl
empty-mask (x ∷ xs) h = by_test (slash x) (empty-mask xs) h
  where
    by_test : (b : Bool) → (length xs ≤ prefix_len (λ x. not (slash x)) xs → mask_l (map slash xs) ≡ 0)
        → suc (length xs) ≤ cond (not b) (1 + prefix_len (λ x. not (slash x)) xs) 0
        → cond b 1 0 + 2 * mask_l (map slash xs) ≡ 0
    by_test true rest h = absurd (omega (arith, h))
    by_test false rest h = let none = rest (omega (arith, h)) in omega (arith, none)

pub in-block : (t : List ℕ) (m : ℕ) → 16 ≤ length t → m ≡ slashes 16 t → m ≢ 0
    → IsFirstByte (is_byte 47) t (Some (count_trailing_zeros 64 m))
in-block t m long is some = rw is (found t r (omega (arith, low, long))
    (λ k below. run_in_chunk_fails slash t 0 16 r 0 long counted k (omega arith) (omega (arith, below)))
    (ap (λ i. slash (get_or t i 0)) same ∙ run_in_chunk_stops slash t 0 16 r 0 long counted low))
  where
    xs : List ℕ
    xs = take 16 t

    r : ℕ
    r = count_trailing_zeros 64 (slashes 16 t)

    size : length xs ≡ 16
    size = length-take-le 16 t long

    counted : r ≡ prefix_len (λ x. not (slash x)) xs
    counted = trailing_mask_l slash 64 xs (omega (arith, size)) (omega (arith, is, some))

    same : r ≡ 0 + r
    same = omega arith

    low : r < 16
    low = by_place (leb_tells 16 r)
      where
        by_place : ((leb 16 r ≡ true) × (16 ≤ r)) ⊎ ((leb 16 r ≡ false) × (r < 16)) → r < 16
        by_place (inl w) = absurd (some (is ∙ empty-mask xs (omega (arith, size, counted, w.1))))
        by_place (inr w) = w.1

-- ---- behind the first block
block-none : (t : List ℕ) (m : ℕ) → 16 ≤ length t → m ≡ slashes 16 t → m ≡ 0 → HasNone t 16
block-none t m long is none k lt = none_from_empty_mask slash t 0 16 0 long (sym is ∙ none) k (omega arith) lt

none-to : (t : List ℕ) (n m : ℕ) → HasNone t n → ((k : ℕ) → k < m → Passes (is_byte 47) (drop n t) k → ⊥) → (k : ℕ)
    → k < n + m → Passes (is_byte 47) t k → ⊥
none-to t n m front behind k lt is = by_place (leb_tells n k)
  where
    by_place : ((leb n k ≡ true) × (n ≤ k)) ⊎ ((leb n k ≡ false) × (k < n)) → ⊥
    by_place (inl w) =
        let same : n + (k - n) ≡ k = omega (arith, w.1) in
        behind (k - n) (omega (arith, w.1, lt)) (ap slash (get_or-drop n t (k - n) 0)
        ∙ ap (λ i. slash (get_or t i 0)) same ∙ is)
    by_place (inr w) = not-both (slash (get_or t k 0)) (front k w.1) is

-- the first slash of the slice that is searched is that of the rest
rest-whole : (t : List ℕ) (n : ℕ) (r : Option ℕ) → IsFirstByte (is_byte 47) (take (length t - n) (drop n t)) r
    → IsFirstByte (is_byte 47) (drop n t) r
rest-whole t n r h = let P : List ℕ → Type 0 = λ s. IsFirstByte (is_byte 47) s r in
    subst P (take_all (length t - n) (drop n t) (omega (arith, length-drop n t))) h

pub behind-block : (t : List ℕ) (m at : ℕ) → 16 ≤ length t → m ≡ slashes 16 t → m ≡ 0
    → IsFirstByte (is_byte 47) (take (length t - 16) (drop 16 t)) (Some at)
    → IsFirstByte (is_byte 47) t (Some (at + 16))
behind-block t m at long is none behind =
    let rest = rest-whole t 16 (Some at) behind in
    let same : 16 + at ≡ at + 16 = omega arith in (
      record {
        low = omega arith;
        high = omega (arith, long, length-drop 16 t, rest.0.high);
        before = λ k ge below. none-to t 16 at (block-none t m long is none) (λ j lt. rest.0.before j (omega arith) lt)
            k (omega (arith, below));
      },
      ap (λ i. slash (get_or t i 0)) (sym same) ∙ ap slash (sym (get_or-drop 16 t at 0)) ∙ rest.1,
    )

pub nowhere : (t : List ℕ) (m : ℕ) → 16 ≤ length t → m ≡ slashes 16 t → m ≡ 0
    → IsFirstByte (is_byte 47) (take (length t - 16) (drop 16 t)) None → IsFirstByte (is_byte 47) t None
nowhere t m long is none behind =
    let rest = rest-whole t 16 None behind in
    λ k ge lt. none-to t 16 (length (drop 16 t)) (block-none t m long is none) (λ j below. rest j (omega arith) below) k
    (omega (arith, lt, length-drop 16 t))
