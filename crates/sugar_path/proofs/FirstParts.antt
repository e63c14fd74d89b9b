-- The first part of a path, by its first slash.
use Rattle.std.proofs.Common.{
  ◌≡◌,
  ◌≢◌,
  ◌==◌,
  ◌⊎◌,
  inl,
  inr,
  ℕ,
  zero,
  suc,
  ◌+◌,
  ◌<◌,
  ◌≤◌,
  true,
  false,
  not,
  List,
  [],
  ◌∷◌,
  ◌++◌,
  length,
  get_or,
  take,
  drop,
  refl,
  sym,
  ap,
  ◌∙◌,
  arith,
}
use Rattle.std.proofs.lemmas.Bool.Decides.{eqb_tells}
use Rattle.std.proofs.lemmas.List.{take-append-drop, take_all, drop_more}
use Rattle.sugar_path.specs.Path.{has_no_slash, parts}
use Rattle.sugar_path.proofs.Bools.{and_both}
use Rattle.sugar_path.proofs.Parts.{parts-name, parts-slash}

-- no slash at any place
pub no_slash-everywhere : (t : List ℕ) (n : ℕ) → n ≤ length t → ((k : ℕ) → k < n → (get_or t k 0 == 47) ≡ true → ⊥)
    → has_no_slash (take n t) ≡ true
no_slash-everywhere [] zero le none = refl
no_slash-everywhere [] (suc n) le none = refl
no_slash-everywhere (c ∷ t) zero le none = refl
no_slash-everywhere (c ∷ t) (suc n) le none =
    and_both (not (c == 47)) (has_no_slash (take n t)) (here (eqb_tells c 47))
    (no_slash-everywhere t n (omega arith) (λ k lt is. none (suc k) (omega arith) is))
  where
    here : (((c == 47) ≡ true) × (c ≡ 47)) ⊎ (((c == 47) ≡ false) × (c ≢ 47)) → not (c == 47) ≡ true
    here (inl w) = absurd (none 0 (omega arith) w.0)
    here (inr w) = ap not w.0

-- a path is cut at its first slash
pub parts-cut : (t : List ℕ) (n : ℕ) → n < length t → ((k : ℕ) → k < n → (get_or t k 0 == 47) ≡ true → ⊥)
    → get_or t n 0 ≡ 47 → parts t ≡ take n t ∷ parts (drop (n + 1) t)
parts-cut t n lt none is =
    let whole : t ≡ take n t ++ 47 ∷ drop (n + 1) t =
    sym (take-append-drop n t) ∙ ap (λ s. take n t ++ s) (drop_more t n 0 lt ∙ ap (λ c. c ∷ drop (n + 1) t) is) in
    ap parts whole
    ∙ parts-slash (take n t) (drop (n + 1) t)
    ∙ ap (λ ps. ps ++ parts (drop (n + 1) t)) (parts-name (take n t) (no_slash-everywhere t n (omega arith) none))

-- and a path without slash is the one part
pub parts-uncut : (t : List ℕ) → ((k : ℕ) → k < length t → (get_or t k 0 == 47) ≡ true → ⊥) → parts t ≡ t ∷ []
parts-uncut t none = parts-name t (ap has_no_slash (sym (take_all (length t) t (omega arith)))
    ∙ no_slash-everywhere t (length t) (omega arith) none)
