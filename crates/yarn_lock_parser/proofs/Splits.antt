-- A text around the first byte of a kind.
use Rattle.std.proofs.Common.{
  ◌≡◌,
  ◌==◌,
  ◌<◌,
  ◌+◌,
  ℕ,
  suc,
  Bool,
  true,
  false,
  not,
  cond,
  List,
  [],
  ◌∷◌,
  length,
  take,
  drop,
  refl,
  sym,
  ap,
  ◌∙◌,
  Option,
  Some,
  None,
  Bor,
  arith,
}
use Rattle.std.specs.Prelude.{MatchOption, option_map}
use Rattle.std.specs.List.{after_first, before_first, position_or_len}
use Rattle.std.proofs.lemmas.Str.Pattern.{IsSplitOnceResult, split_once_first}
use Rattle.yarn_lock_parser.proofs.Cuts.{parts, around, around-nil, around-here, around-later}

abbrev firsts : ℕ → List ℕ → ℕ
firsts b t = position_or_len (λ c. c == b) t

around-first : (b : ℕ) (t : List ℕ) → firsts b t < length t
    → around b t ≡ Some (parts (take (firsts b t) t) (drop (firsts b t + 1) t))
around-first b [] h = absurd (omega (arith, h))
around-first b (c ∷ cs) h = by_test (c == b) refl h (around-first b cs)
  where
    by_test : (y : Bool) → (c == b) ≡ y → cond (not y) (1 + firsts b cs) 0 < suc (length cs)
        → (firsts b cs < length cs → around b cs ≡ Some (parts (take (firsts b cs) cs) (drop (firsts b cs + 1) cs)))
        → around b (c ∷ cs) ≡ Some (parts (take (cond (not y) (1 + firsts b cs) 0) (c ∷ cs))
        (drop (cond (not y) (1 + firsts b cs) 0 + 1) (c ∷ cs)))
    by_test true e h rest = around-here b c cs e
    by_test false e h rest =
        let one : 1 + firsts b cs ≡ suc (firsts b cs) = omega arith in
        let two : suc (firsts b cs) + 1 ≡ suc (firsts b cs + 1) = omega arith in
        let found = rest (omega (arith, h)) in
        around-later b c cs e ∙ (ap (option_map (λ x. parts (c ∷ x.0) x.1)) found ∙ rw (one, two) refl)

around-none : (b : ℕ) (t : List ℕ) → firsts b t ≡ length t → around b t ≡ None
around-none b [] h = around-nil b
around-none b (c ∷ cs) h = by_test (c == b) refl h (around-none b cs)
  where
    by_test : (y : Bool) → (c == b) ≡ y → cond (not y) (1 + firsts b cs) 0 ≡ suc (length cs)
        → (firsts b cs ≡ length cs → around b cs ≡ None) → around b (c ∷ cs) ≡ None
    by_test true e h rest = absurd (omega (arith, h))
    by_test false e h rest =
        around-later b c cs e ∙ ap (option_map (λ x. parts (c ∷ x.0) x.1)) (rest (omega (arith, h)))

-- std's `split_once`
pub split-around : (b : ℕ) (t : List ℕ) (r : Option (Bor (List ℕ) × Bor (List ℕ))) → IsSplitOnceResult b t r → b < 128
    → option_map (λ x. (x.0.now, x.1.now)) r ≡ around b t
split-around b t r h low = by_result r (split_once_first b t r h low)
  where
    by_result : (r : Option (Bor (List ℕ) × Bor (List ℕ)))
        → MatchOption r (firsts b t ≡ length t) (λ x. (firsts b t < length t) × (x.0.now ≡ before_first (λ c. c == b) t)
        × (x.1.now ≡ after_first (λ c. c == b) t)) → option_map (λ x. (x.0.now, x.1.now)) r ≡ around b t
    by_result None h = sym (around-none b t h)
    by_result (Some x) h = rw (h.1, h.2) (sym (around-first b t h.0))
