-- What stands around the first `:` of a text.
use Rattle.std.proofs.Common.{
  ◌≡◌,
  ◌<◌,
  ◌+◌,
  ◌==◌,
  ℕ,
  suc,
  Bool,
  true,
  false,
  cond,
  not,
  List,
  [],
  ◌∷◌,
  length,
  take,
  drop,
  Option,
  Some,
  None,
  Bor,
  refl,
  ap,
  ◌∙◌,
  arith,
  add-one,
  one-add,
}
use Rattle.std.specs.Prelude.{option_map, MatchOption}
use Rattle.std.specs.List.{position_or_len, before_first, after_first}
use Rattle.deno_package_json.specs.Requirements.{around_colon}

abbrev is_colon : ℕ → Bool
is_colon c = c == 58

-- the parts behind a byte that is a colon, or is none
abbrev parted_by : Bool → ℕ → List ℕ → Option (List ℕ × List ℕ) → Option (List ℕ × List ℕ)
parted_by b c cs later = cond b (Some ([], cs)) (option_map (λ parted. (c ∷ parted.0, parted.1)) later)

abbrev parted_at : ℕ → List ℕ → Option (List ℕ × List ℕ)
parted_at n t = Some (take n t, drop (n + 1) t)

around_colon-none : (t : List ℕ) → position_or_len is_colon t ≡ length t → None ≡ around_colon t
around_colon-none [] e = refl
around_colon-none (c ∷ cs) e = by_test (c == 58) e (around_colon-none cs)
  where
    by_test : (b : Bool) → cond (not b) (1 + position_or_len is_colon cs) 0 ≡ suc (length cs)
        → (position_or_len is_colon cs ≡ length cs → None ≡ around_colon cs) → None ≡ parted_by b c cs (around_colon cs)
    by_test true e rest = absurd (omega arith)
    by_test false e rest = ap (parted_by false c cs) (rest (omega arith))

around_colon-some : (t : List ℕ) → position_or_len is_colon t < length t
    → parted_at (position_or_len is_colon t) t ≡ around_colon t
around_colon-some [] h = absurd (omega arith)
around_colon-some (c ∷ cs) h = by_test (c == 58) h (around_colon-some cs)
  where
    by_test : (b : Bool) → cond (not b) (1 + position_or_len is_colon cs) 0 < suc (length cs)
        → (position_or_len is_colon cs < length cs → parted_at (position_or_len is_colon cs) cs ≡ around_colon cs)
        → parted_at (cond (not b) (1 + position_or_len is_colon cs) 0) (c ∷ cs) ≡ parted_by b c cs (around_colon cs)
    by_test true h rest = refl
    by_test false h rest = later (position_or_len is_colon cs) ∙ ap (parted_by false c cs) (rest (omega arith))
      where
        later : (n : ℕ) → parted_at (1 + n) (c ∷ cs) ≡ parted_by false c cs (parted_at n cs)
        later n = rw (one-add n, add-one n, add-one (suc n)) refl

abbrev parted_now : Bor (List ℕ) × Bor (List ℕ) → Option (List ℕ × List ℕ)
parted_now x = Some (x.0.now, x.1.now)

pub around_colon-split : (t : List ℕ) (r : Option (Bor (List ℕ) × Bor (List ℕ)))
    → MatchOption r (position_or_len is_colon t ≡ length t) (λ x. (x.0.now ≡ before_first is_colon t)
    × (x.1.now ≡ after_first is_colon t) × (position_or_len is_colon t < length t))
    → option_map (λ x. (x.0.now, x.1.now)) r ≡ around_colon t
around_colon-split t None h = around_colon-none t h
around_colon-split t (Some x) h = (let both : parted_now x ≡ parted_at (position_or_len is_colon t) t =
    λ i. Some (h.0 i, h.1 i) in both) ∙ around_colon-some t h.2
