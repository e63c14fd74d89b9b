-- Facts about tests of numbers, and about their order.
use Rattle.std.proofs.Common.{
  ◌≡◌,
  ℕ,
  ◌<◌,
  ◌≤◌,
  Bool,
  true,
  false,
  inl,
  inr,
  Option,
  None,
  Some,
  refl,
  sym,
  ap,
  ◌∙◌,
  arith,
}
use Rattle.std.specs.Prelude.{◌==◌, ◌&&◌, ◌⊎◌, nat_le, nat_lt}
use Rattle.std.proofs.lemmas.Bool.{false≢true, cases_eq, and_parts, leb-true, ltb-true, ltb-false, ne_eqb}
use Rattle.std.proofs.lemmas.Option.{none-some}

-- a test of a number against two bounds
pub within_bounds : (a b c : ℕ) → nat_le a c && nat_le c b ≡ true → (a ≤ c) × (c ≤ b)
within_bounds a b c h =
    let parts = and_parts (nat_le a c) (nat_le c b) h in (leb-true a c parts.0, leb-true c b parts.1)

-- a number is none above it, and none below it
pub below_apart : (c k : ℕ) → c < k → c == k ≡ false
below_apart c k lt = ne_eqb c k (λ e. omega (arith, lt, e))

pub above_apart : (c k : ℕ) → k < c → c == k ≡ false
above_apart c k lt = ne_eqb c k (λ e. omega (arith, lt, e))

-- a test that one number passes and another doesn't tells them apart
pub apart_by : (p : ℕ → Bool) (c k : ℕ) → p c ≡ true → p k ≡ false → c == k ≡ false
apart_by p c k h n = ne_eqb c k (λ e. false≢true (sym n ∙ ap p (sym e) ∙ h))

-- what is at most another number, is less or the same
pub lt_from : (a b : ℕ) → a ≤ b → (a ≡ b → ⊥) → a < b
lt_from a b le apart = grind (arith)

pub lt_or_same : (a b : ℕ) → a ≤ b → (a < b) ⊎ (a ≡ b)
lt_or_same a b le = by_order (cases_eq a b)
  where
    by_order : (a ≡ b) ⊎ (a ≡ b → ⊥) → (a < b) ⊎ (a ≡ b)
    by_order (inl e) = inr e
    by_order (inr apart) = inl (lt_from a b le apart)

-- a number is less than another, or at least as much
pub lt_or_le : (a b : ℕ) → (a < b) ⊎ (b ≤ a)
lt_or_le a b = by_test (nat_lt a b) refl
  where
    by_test : (t : Bool) → nat_lt a b ≡ t → (a < b) ⊎ (b ≤ a)
    by_test true h = inl (ltb-true a b h)
    by_test false h = inr (ltb-false a b h)

-- nothing is no value
pub no_some : {A P : Type 0} (x : A) → ◌≡◌ {A = Option A} None (Some x) → P
no_some x e = absurd (none-some x e)
