-- Parts that are names because no slash is followed by a slash or a dot.
use Rattle.std.proofs.Common.{
  ◌≡◌,
  ◌≢◌,
  ◌==◌,
  ◌⊎◌,
  inl,
  inr,
  ℕ,
  zero,
  suc,
  ◌+◌,
  ◌*◌,
  ◌-◌,
  ◌<◌,
  ◌≤◌,
  ◌^◌,
  ◌%◌,
  Bool,
  true,
  false,
  cond,
  List,
  [],
  ◌∷◌,
  length,
  map,
  get_or,
  take,
  drop,
  refl,
  sym,
  ap,
  ◌∙◌,
  subst,
  arith,
}
use Rattle.std.specs.Int.RustNames.{bit_and, bit_or}
use Rattle.std.specs.Path.{first_piece, later_pieces}
use Rattle.std.specs.Simd.Lanes.{zip2}
use Rattle.std.specs.Prelude.{replicate}
use lib.Lanes.{mask_l, top}
use Rattle.std.proofs.Math.Dec.{leb}
use Rattle.std.proofs.lemmas.Bool.Decides.{eqb_tells, leb_tells}
use Rattle.std.proofs.lemmas.Simd.{length-chunk, get_or-chunk, mask_l-mod}
use Rattle.sugar_path.specs.Path.{parts, is_plain, ends_in_slash}
use Rattle.sugar_path.specs.Reading.{are_steps}
use Rattle.sugar_path.specs.Starts.{IsStart, IsStartAt}
use Rattle.sugar_path.proofs.StdPaths.{parts-pieces}

-- ---- lanes
abbrev same : ℕ → ℕ → ℕ
same a b = cond (a == b) 255 0

-- a lane is set where a slash stands, and a slash or a dot behind it
abbrev odd : ℕ → ℕ → Bool
odd c d = top 7 (bit_and (same c 47) (same (bit_or d 1) 47))

abbrev odds : ℕ → List ℕ → List ℕ → List Bool
odds n xs ys = map (top 7) (zip2 bit_and (zip2 same xs (replicate n 47))
    (zip2 same (zip2 bit_or ys (replicate n 1)) (replicate n 47)))

odd-none : (c d : ℕ) → odd c d ≡ false → c ≡ 47 → IsStart d
odd-none c d none is = (
  λ dot. let e : odd c d ≡ true = rw (is, dot) refl in let f : false ≡ true = sym none ∙ e in cc,
  λ slash. let e : odd c d ≡ true = rw (is, slash) refl in let f : false ≡ true = sym none ∙ e in cc,
)

odds-none : (n : ℕ) (xs ys : List ℕ) → length xs ≡ n → length ys ≡ n → mask_l (odds n xs ys) ≡ 0 → (i : ℕ) → i < n
    → odd (get_or xs i 0) (get_or ys i 0) ≡ false
odds-none zero xs ys h k none i lt = absurd (omega (arith, lt))
odds-none (suc n) [] ys h k none i lt = absurd (omega (arith, h))
odds-none (suc n) (x ∷ xs) [] h k none i lt = absurd (omega (arith, k))
odds-none (suc n) (x ∷ xs) (y ∷ ys) h k none i lt =
    by_lane (odd x y) refl none (odds-none n xs ys (omega (arith, h)) (omega (arith, k))) i lt
  where
    by_lane : (b : Bool) → odd x y ≡ b → cond b 1 0 + 2 * mask_l (odds n xs ys) ≡ 0
        → (mask_l (odds n xs ys) ≡ 0 → (i : ℕ) → i < n → odd (get_or xs i 0) (get_or ys i 0) ≡ false) → (i : ℕ)
        → i < suc n → odd (get_or (x ∷ xs) i 0) (get_or (y ∷ ys) i 0) ≡ false
    by_lane true is none rest i lt = absurd (omega (arith, none))
    by_lane false is none rest zero lt = is
    by_lane false is none rest (suc i) lt = rest (omega (arith, none)) i (omega (arith, lt))

length-odds : (n : ℕ) (xs ys : List ℕ) → length xs ≡ n → length ys ≡ n → length (odds n xs ys) ≡ n
length-odds zero [] ys h k = refl
length-odds zero (x ∷ xs) ys h k = absurd (omega (arith, h))
length-odds (suc n) [] ys h k = absurd (omega (arith, h))
length-odds (suc n) (x ∷ xs) [] h k = absurd (omega (arith, k))
length-odds (suc n) (x ∷ xs) (y ∷ ys) h k = ap suc (length-odds n xs ys (omega (arith, h)) (omega (arith, k)))

-- no lane of a block is set
pub block-starts : (t : List ℕ) (at : ℕ) → at + 17 ≤ length t
    → mask_l (odds 16 (take 16 (drop at t)) (take 16 (drop (at + 1) t))) % 2 ^ 64 ≡ 0 → (k : ℕ) → at ≤ k → k < at + 16
    → IsStartAt t k
block-starts t at room none k le lt is =
    let xs = take 16 (drop at t) in
    let ys = take 16 (drop (at + 1) t) in
    let left = length-chunk at 16 t (omega (arith, room)) in
    let right = length-chunk (at + 1) 16 t (omega (arith, room)) in
    let fits : length (odds 16 xs ys) ≤ 64 = omega (arith, length-odds 16 xs ys left right) in
    let i = k - at in
    let within : i < 16 = omega (arith, le, lt) in
    let here : at + i ≡ k = omega (arith, le) in
    let next : at + 1 + i ≡ k + 1 = omega (arith, le) in
    let c : get_or xs i 0 ≡ get_or t k 0 = get_or-chunk at 16 t i 0 within ∙ ap (λ j. get_or t j 0) here in
    let d : get_or ys i 0 ≡ get_or t (k + 1) 0 = get_or-chunk (at + 1) 16 t i 0 within ∙ ap (λ j. get_or t j 0) next in
    let lane : odd (get_or xs i 0) (get_or ys i 0) ≡ false =
    odds-none 16 xs ys left right (sym (mask_l-mod (odds 16 xs ys) 64 fits) ∙ none) i within in
    odd-none (get_or t k 0) (get_or t (k + 1) 0) (sym (ap (λ x. odd x (get_or ys i 0)) c ∙ ap (odd (get_or t k 0)) d)
    ∙ lane) is

-- ---- parts
first-plain : (c : ℕ) (t : List ℕ) → IsStart c → is_plain (first_piece (c ∷ t)) ≡ true
first-plain c t h = by_tests (eqb_tells c 47) (eqb_tells c 46)
  where
    by_tests : (((c == 47) ≡ true) × (c ≡ 47)) ⊎ (((c == 47) ≡ false) × (c ≢ 47)) → (((c == 46) ≡ true) × (c ≡ 46))
        ⊎ (((c == 46) ≡ false) × (c ≢ 46)) → is_plain (first_piece (c ∷ t)) ≡ true
    by_tests (inl w) v = absurd (h.1 w.1)
    by_tests (inr w) (inl v) = absurd (h.0 v.1)
    by_tests (inr w) (inr v) = rw (w.0, v.0) refl

start-behind : (c : ℕ) (t : List ℕ) (k : ℕ) → IsStartAt (c ∷ t) (suc k) → IsStartAt t k
start-behind c t k h slash =
    let same : suc k + 1 ≡ suc (k + 1) = omega arith in
    subst IsStart (ap (λ j. get_or (c ∷ t) j 0) same) (h slash)

later-plain : (t : List ℕ) → ((k : ℕ) → k + 1 < length t → IsStartAt t k) → ends_in_slash t ≡ false
    → are_steps false (later_pieces t) ≡ true
later-plain [] starts unended = refl
later-plain (c ∷ []) starts unended = rw unended refl
later-plain (c ∷ d ∷ t) starts unended = by_test (eqb_tells c 47)
    (later-plain (d ∷ t) (λ k lt. start-behind c (d ∷ t) k (starts (suc k) (omega (arith, lt)))) unended)
  where
    by_test : (((c == 47) ≡ true) × (c ≡ 47)) ⊎ (((c == 47) ≡ false) × (c ≢ 47))
        → are_steps false (later_pieces (d ∷ t)) ≡ true → are_steps false (later_pieces (c ∷ d ∷ t)) ≡ true
    by_test (inl w) rest = rw (w.0, first-plain d t (starts 0 (omega arith) w.1)) rest
    by_test (inr w) rest = rw w.0 rest

-- a text of names alone
pub names-plain : (t : List ℕ) → 0 < length t → IsStart (get_or t 0 0) → ((k : ℕ) → k + 1 < length t → IsStartAt t k)
    → ends_in_slash t ≡ false → (up : Bool) → are_steps up (parts t) ≡ true
names-plain [] some begins starts unended up = absurd (omega (arith, some))
names-plain (c ∷ t) some begins starts unended up =
    ap (are_steps up) (parts-pieces (c ∷ t)) ∙ rw (first-plain c t begins) (later-plain (c ∷ t) starts unended)

-- ---- blocks, one behind the other, and the last one over what is left
abbrev pub StartsBefore : ℕ → List ℕ → Type 0
StartsBefore n t = (k : ℕ) → k < n → IsStartAt t k

-- to the end of a text
pub starts-all : (t : List ℕ) (at last : ℕ) → 16 < length t → last ≡ length t - 16 - 1 → last ≤ at → StartsBefore at t
    → ((k : ℕ) → last ≤ k → k < last + 16 → IsStartAt t k) → (k : ℕ) → k + 1 < length t → IsStartAt t k
starts-all t at last long is le before block k lt = by_place (leb_tells last k)
  where
    by_place : ((leb last k ≡ true) × (last ≤ k)) ⊎ ((leb last k ≡ false) × (k < last)) → IsStartAt t k
    by_place (inl w) = block k w.1 (omega (arith, is, long, lt))
    by_place (inr w) = before k (omega (arith, w.1, le))
