-- Parts of texts: what stands behind the last `/`.
use Rattle.std.proofs.Common.{
  ◌≡◌,
  ◌≢◌,
  ◌<◌,
  ◌+◌,
  ◌-◌,
  ◌==◌,
  ◌||◌,
  bytes_eq,
  inl,
  inr,
  ℕ,
  Bool,
  false,
  not,
  List,
  [],
  ◌∷◌,
  length,
  get_or,
  drop,
  refl,
  sym,
  ap,
  ◌∙◌,
  arith,
}
use Rattle.std.specs.List.{suffix_len, after_last}
use Rattle.std.proofs.lemmas.Bool.Decides.{eqb_tells}
use Rattle.std.proofs.lemmas.List.Sums.{suffix_len_is}
use Rattle.sugar_path.specs.Path.{ends_in_slash}
use Rattle.sugar_path.proofs.RouteTexts.{ends-last}
use Rattle.resolver_core.specs.Mapping.{is_slash}

not_eq : (a b : ℕ) → a ≢ b → (a == b) ≡ false
not_eq a b h = elim (eqb_tells a b) [ inl w ↦ absurd (h w.1) | inr w ↦ w.0 ]

-- A text without `/` is its own last part.
pub last_part-none : (t : List ℕ) → ((i : ℕ) → i < length t → get_or t i 0 ≢ 47) → t ≡ after_last is_slash t
last_part-none t none =
    let len : suffix_len (λ b. not (is_slash b)) t ≡ length t - 0 =
    suffix_len_is (λ b. not (is_slash b)) t 0 0 (omega arith)
    (λ i above below. ap not (not_eq (get_or t i 0) 47 (none i below))) (λ some. absurd (omega arith)) in
    let zero : 0 ≡ length t - suffix_len (λ b. not (is_slash b)) t = omega (arith, len) in
    ap (λ j. drop j t) zero

-- Else the last part stands behind the last `/`.
pub last_part-some : (t : List ℕ) (k : ℕ) → k < length t → get_or t k 0 ≡ 47
    → ((i : ℕ) → k < i → i < length t → get_or t i 0 ≢ 47) → drop (k + 1) t ≡ after_last is_slash t
last_part-some t k lt at after =
    let behind : suffix_len (λ b. not (is_slash b)) t ≡ length t - (k + 1) =
    suffix_len_is (λ b. not (is_slash b)) t (k + 1) 0 (omega arith)
    (λ i above below. ap not (not_eq (get_or t i 0) 47 (after i (omega arith) below)))
    (λ _. last ((k + 1) - 1) (omega arith)) in
    let len : k + 1 ≡ length t - suffix_len (λ b. not (is_slash b)) t = omega (arith, behind) in
    ap (λ j. drop j t) len
  where
    last : (j : ℕ) → j ≡ k → not (is_slash (get_or t j 0)) ≡ false
    last j is = rw (is, at) refl

-- A folder that isn't empty ends in `/` where its last byte is one.
pub closed-last : (t : List ℕ) (r : Bool) → (length t == 0) ≡ false → r ≡ (get_or t (length t - 1) 0 == 47)
    → r ≡ (bytes_eq t [] || ends_in_slash t)
closed-last [] r some is = cc
closed-last (x ∷ xs) r some is =
    let next : length (x ∷ xs) - 1 ≡ length xs = omega arith in
    is ∙ ap (λ i. get_or (x ∷ xs) i 0 == 47) next ∙ sym (ends-last x xs)
