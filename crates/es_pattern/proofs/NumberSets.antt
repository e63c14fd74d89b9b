-- Sets of numbers as the bits of words.
use Rattle.std.proofs.Common.{
  ◌≡◌,
  ℕ,
  zero,
  suc,
  ◌+◌,
  ◌*◌,
  ◌/◌,
  ◌%◌,
  ◌^◌,
  ◌<◌,
  ◌≤◌,
  Bool,
  true,
  false,
  cond,
  List,
  length,
  get_or,
  set,
  inl,
  inr,
  refl,
  sym,
  ap,
  subst,
  ◌∙◌,
  arith,
}
use Rattle.std.specs.Prelude.{◌⊎◌, ◌==◌, bit_or}
use Rattle.std.specs.Int.{bit_at, w64}
use Rattle.std.proofs.lemmas.Bool.{cases_eq, eq-eqb, false≢true}
use Rattle.std.proofs.lemmas.List.{get_or-set_same, get_or-set_other}
use Rattle.std.proofs.lemmas.Nat.Bits.{bit_at_set_same, bit_at_set_other}
use Rattle.es_pattern.specs.NumberSet.{has, Has}
use Rattle.es_pattern.specs.Alive.{untaken}
use Rattle.es_pattern.proofs.NumberTests.{lt_from}

-- a word with that bit
abbrev with_bit : ℕ → ℕ → ℕ
with_bit word k = bit_or word (1 * 2 ^ k % 18446744073709551616)

pub inserted_here : (words : List ℕ) (n word : ℕ) → n / 64 < length words
    → Has (set words (n / 64) (with_bit word (n % 64))) n
inserted_here words n word lt =
    eq-eqb (bit_at (get_or (set words (n / 64) (with_bit word (n % 64))) (n / 64) 0) (n % 64)) 1
    (ap (λ (w : ℕ). bit_at w (n % 64)) (get_or-set_same words (n / 64) (with_bit word (n % 64)) 0 lt)
    ∙ bit_at_set_same w64 word (n % 64) (omega arith))

-- what was not inserted is in the set where it was before
pub inserted_else : (words : List ℕ) (n word : ℕ) → n / 64 < length words → word ≡ get_or words (n / 64) 0 → (m : ℕ)
    → (n ≡ m) ⊎ (has (set words (n / 64) (with_bit word (n % 64))) m ≡ has words m)
inserted_else words n word lt e m = by_word (cases_eq (m / 64) (n / 64))
  where
    new : List ℕ
    new = set words (n / 64) (with_bit word (n % 64))

    same_word : m / 64 ≡ n / 64 → (m % 64 ≡ n % 64) ⊎ (m % 64 ≡ n % 64 → ⊥) → (n ≡ m) ⊎ (has new m ≡ has words m)
    same_word at (inl k) = inl (omega (arith, at, k))
    same_word at (inr apart) = inr (ap (λ (b : ℕ). b == 1)
        (ap (λ (w : ℕ). bit_at w (m % 64)) (ap (λ (x : ℕ). get_or new x 0) at
        ∙ get_or-set_same words (n / 64) (with_bit word (n % 64)) 0 lt)
        ∙ bit_at_set_other w64 word (n % 64) (omega arith) (m % 64) apart
        ∙ ap (λ (w : ℕ). bit_at w (m % 64)) (e ∙ ap (λ (x : ℕ). get_or words x 0) (sym at))))

    by_word : (m / 64 ≡ n / 64) ⊎ (m / 64 ≡ n / 64 → ⊥) → (n ≡ m) ⊎ (has new m ≡ has words m)
    by_word (inl at) = same_word at (cases_eq (m % 64) (n % 64))
    by_word (inr apart) = inr (ap (λ (w : ℕ). bit_at w (m % 64) == 1)
        (get_or-set_other words (n / 64) (m / 64) (with_bit word (n % 64)) 0 apart))

pub inserted_kept : (words : List ℕ) (n word : ℕ) → n / 64 < length words → word ≡ get_or words (n / 64) 0 → (m : ℕ)
    → Has words m → Has (set words (n / 64) (with_bit word (n % 64))) m
inserted_kept words n word lt e m h = by_cases (inserted_else words n word lt e m)
  where
    by_cases : (n ≡ m) ⊎ (has (set words (n / 64) (with_bit word (n % 64))) m ≡ has words m)
        → Has (set words (n / 64) (with_bit word (n % 64))) m
    by_cases (inl at) =
        subst (λ (x : ℕ). Has (set words (n / 64) (with_bit word (n % 64))) x) at (inserted_here words n word lt)
    by_cases (inr same) = same ∙ h

pub inserted_none_else : (words : List ℕ) (n word : ℕ) → n / 64 < length words → word ≡ get_or words (n / 64) 0
    → (m : ℕ) → Has (set words (n / 64) (with_bit word (n % 64))) m → (n ≡ m) ⊎ Has words m
inserted_none_else words n word lt e m h = by_cases (inserted_else words n word lt e m)
  where
    by_cases : (n ≡ m) ⊎ (has (set words (n / 64) (with_bit word (n % 64))) m ≡ has words m) → (n ≡ m) ⊎ Has words m
    by_cases (inl at) = inl at
    by_cases (inr same) = inr (sym same ∙ h)

-- a set that has more leaves less
untaken_one : (a b : Bool) → (a ≡ true → b ≡ true) → cond b 0 3 ≤ cond a 0 3
untaken_one true true h = omega arith
untaken_one true false h = absurd (false≢true (h refl))
untaken_one false true h = omega arith
untaken_one false false h = omega arith

pub untaken_less : (old new : List ℕ) (size : ℕ) → ((m : ℕ) → Has old m → Has new m)
    → untaken new size ≤ untaken old size
untaken_less old new zero kept = omega arith
untaken_less old new (suc size) kept =
    omega (arith, untaken_one (has old size) (has new size) (kept size), untaken_less old new size kept)

pub untaken_fewer : (old new : List ℕ) (size n : ℕ) → ((m : ℕ) → Has old m → Has new m) → has old n ≡ false → Has new n
    → n < size → untaken new size + 3 ≤ untaken old size
untaken_fewer old new zero n kept was now lt = absurd (omega (arith, lt))
untaken_fewer old new (suc size) n kept was now lt =
    by_cases (cases_eq size n) (λ further. untaken_fewer old new size n kept was now further)
  where
    by_cases : (size ≡ n) ⊎ (size ≡ n → ⊥) → (n < size → untaken new size + 3 ≤ untaken old size)
        → untaken new (suc size) + 3 ≤ untaken old (suc size)
    by_cases (inl e) again =
        let a : ◌≡◌ {A = ℕ} (cond (has old size) 0 3) 3 =
        ap (λ (b : Bool). cond {A = ℕ} b 0 3) (ap (has old) e ∙ was) in
        let b : ◌≡◌ {A = ℕ} (cond (has new size) 0 3) 0 =
        ap (λ (b : Bool). cond {A = ℕ} b 0 3) (ap (has new) e ∙ now) in
        omega (arith, a, b, untaken_less old new size kept)
    by_cases (inr apart) again =
        let other : size ≡ n → ⊥ = apart in
        let below : n < size = lt_from n size (omega (arith, lt)) (λ e. other (sym e)) in
        omega (arith, untaken_one (has old size) (has new size) (kept size), again below)

pub untaken_most : (taken : List ℕ) (size : ℕ) → untaken taken size ≤ 3 * size
untaken_most taken zero = omega arith
untaken_most taken (suc size) = omega (arith, at_most (has taken size), untaken_most taken size)
  where
    at_most : (b : Bool) → ◌≤◌ (cond {A = ℕ} b 0 3) 3
    at_most true = omega arith
    at_most false = omega arith
