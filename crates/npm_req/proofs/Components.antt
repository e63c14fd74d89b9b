-- How the components of a partial version are read.
use Rattle.std.proofs.Common.{
  ◌≡◌,
  ◌<◌,
  ◌≤◌,
  ◌+◌,
  ◌-◌,
  ◌*◌,
  ◌&&◌,
  ◌==◌,
  ◌⊎◌,
  ℕ,
  suc,
  Bool,
  true,
  false,
  cond,
  not,
  List,
  [],
  ◌∷◌,
  length,
  refl,
  Option,
  Some,
  None,
  Result,
  Ok,
  Err,
  subst,
  arith,
  inl,
  inr,
}
use Rattle.std.specs.Prelude.{if◌then◌else◌, nat_le}
use Rattle.std.specs.Char.{is_ascii_digit}
use Rattle.std.specs.List.{onto_first, position_or_len, slice_split}
use Rattle.std.proofs.lemmas.Bool.Decides.{leb_tells}
use Rattle.semver.specs.Order.{is_numeric, parts}
use Rattle.npm_req.specs.Number.{is_number, largest_number, value_behind}
use Rattle.semver.specs.Parse.{Parts}
use Rattle.semver.specs.declared.error.Error.{Error}
use Rattle.npm_req.specs.Partial.{IsCounted, components}
use Rattle.npm_req.specs.Version.{are_numbers, within_numbers}
use Rattle.npm_req.specs.declared.partial.Partial.TheVariants.{Full}

-- what digits stand for behind digits that stand for n, if it isn't too large
abbrev pub counted_behind : ℕ → List ℕ → Option ℕ
counted_behind n ds = if is_numeric ds && is_number (value_behind n ds) then Some (value_behind n ds) else None

value_behind-grows : (n : ℕ) (ds : List ℕ) → n ≤ value_behind n ds
value_behind-grows n [] = omega arith
value_behind-grows n (d ∷ ds) = let more = value_behind-grows (n * 10 + (d - 48)) ds in omega arith

pub counted_behind-large : (n : ℕ) (ds : List ℕ) → largest_number < n → counted_behind n ds ≡ None
counted_behind-large n ds h = by_tests (is_numeric ds) (leb_tells (value_behind n ds) largest_number)
  where
    by_tests : (b : Bool) → ((nat_le (value_behind n ds) largest_number ≡ true) × (value_behind n ds ≤ largest_number))
        ⊎ ((nat_le (value_behind n ds) largest_number ≡ false) × (largest_number < value_behind n ds))
        → cond (b && nat_le (value_behind n ds) largest_number) (Some (value_behind n ds)) None ≡ None
    by_tests b (inl w) = let more = value_behind-grows n ds in absurd (omega arith)
    by_tests true (inr w) = rw w.0 refl
    by_tests false (inr w) = refl

pub counted_behind-other : (n d : ℕ) (ds : List ℕ) → is_ascii_digit d ≡ false → counted_behind n (d ∷ ds) ≡ None
counted_behind-other n d ds h = rw h refl

pub counted_behind-digit : (n d : ℕ) (ds : List ℕ) → is_ascii_digit d ≡ true
    → counted_behind n (d ∷ ds) ≡ counted_behind (n * 10 + (d - 48)) ds
counted_behind-digit n d ds h = rw h refl

-- a text without a dot is its only part
pub one_part : (p : ℕ → Bool) (t : List ℕ) → position_or_len p t ≡ length t → slice_split p t ≡ t ∷ []
one_part p [] e = refl
one_part p (c ∷ cs) e = by_test (p c) e (one_part p cs)
  where
    by_test : (b : Bool) → cond (not b) (1 + position_or_len p cs) 0 ≡ suc (length cs)
        → (position_or_len p cs ≡ length cs → slice_split p cs ≡ cs ∷ [])
        → cond b ([] ∷ slice_split p cs) (onto_first c (slice_split p cs)) ≡ (c ∷ cs) ∷ []
    by_test true e rest = absurd (omega arith)
    by_test false e rest = let tail = rest (omega arith) in rw tail refl

-- a fourth component
pub four_parts : (a b c t : List ℕ) → components (a ∷ b ∷ c ∷ parts t) ≡ None
four_parts a b c [] = refl
four_parts a b c (x ∷ xs) = by_test (x == 46) (slice_split (λ b. b == 46) xs)
  where
    by_test : (y : Bool) (rest : List (List ℕ)) → components (a ∷ b ∷ c ∷ cond y ([] ∷ rest) (onto_first x rest)) ≡ None
    by_test true rest = refl
    by_test false [] = refl
    by_test false (p ∷ ps) = refl

-- the numbers of a version that was read aren't too large
pub small_numbers : (read : Result Parts Error) (p : Parts) → within_numbers read ≡ Some p → IsCounted (Full p)
small_numbers (Err e) p h = cc
small_numbers (Ok q) p h =
    by_tests (leb_tells (q.0) largest_number) (leb_tells (q.1) largest_number) (leb_tells (q.2) largest_number) h
  where
    by_tests : ((nat_le q.0 largest_number ≡ true) × (q.0 ≤ largest_number))
        ⊎ ((nat_le q.0 largest_number ≡ false) × (largest_number < q.0))
        → ((nat_le q.1 largest_number ≡ true) × (q.1 ≤ largest_number))
        ⊎ ((nat_le q.1 largest_number ≡ false) × (largest_number < q.1))
        → ((nat_le q.2 largest_number ≡ true) × (q.2 ≤ largest_number))
        ⊎ ((nat_le q.2 largest_number ≡ false) × (largest_number < q.2)) → cond (are_numbers q) (Some q) None ≡ Some p
        → IsCounted (Full p)
    by_tests (inr w) x y e = let none = rw w.0 at e in cc
    by_tests (inl v) (inr w) y e = let none = rw (v.0, w.0) at e in cc
    by_tests (inl u) (inl v) (inr w) e = let none = rw (u.0, v.0, w.0) at e in cc
    by_tests (inl u) (inl v) (inl w) e =
        let some = rw (u.0, v.0, w.0) at e in
        let same : q ≡ p = cc in
        let Small : Parts → Type 0 = λ x. IsCounted (Full x) in
        subst Small same (u.1, v.1, w.1)
