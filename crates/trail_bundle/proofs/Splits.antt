-- What stands before the first line end, and where there is none.
use Rattle.std.proofs.Common.{
  ◌≡◌,
  ◌+◌,
  ◌<◌,
  ◌==◌,
  ◌&&◌,
  not,
  ℕ,
  suc,
  Bool,
  true,
  false,
  cond,
  List,
  [],
  ◌∷◌,
  length,
  take,
  Option,
  Some,
  None,
  IsTrue,
  IfSome,
  refl,
  sym,
  ap,
  ◌∙◌,
  arith,
  ◌++◌,
  eq-eqb,
}
use Rattle.std.specs.Borrow.{Bor}
use Rattle.std.specs.List.{before_first, after_first, position_or_len}
use Rattle.std.specs.Prelude.{MatchOption, IfNone}
use Rattle.sugar_path.proofs.Bools.{and_right}
use Rattle.trail_bundle.specs.Lines.{lacks}

one_more : (n : ℕ) → 1 + n ≡ suc n
one_more n = omega arith

-- a byte, as a test
abbrev is_byte : ℕ → ℕ → Bool
is_byte c b = b == c

front_lacks : (c : ℕ) (xs : List ℕ) → lacks c (before_first (is_byte c) xs) ≡ true
front_lacks c [] = refl
front_lacks c (x ∷ xs) = by_byte (x == c) refl (front_lacks c xs)
  where
    by_byte : (b : Bool) → (x == c) ≡ b → lacks c (before_first (is_byte c) xs) ≡ true
        → lacks c (take (cond (not b) (1 + position_or_len (is_byte c) xs) 0) (x ∷ xs)) ≡ true
    by_byte true is rest = refl
    by_byte false is rest =
        ap (λ n. lacks c (take n (x ∷ xs))) (one_more (position_or_len (is_byte c) xs))
        ∙ ap (λ b. not b && lacks c (before_first (is_byte c) xs)) is ∙ rest

whole_lacks : (c : ℕ) (xs : List ℕ) → position_or_len (is_byte c) xs ≡ length xs → lacks c xs ≡ true
whole_lacks c [] h = refl
whole_lacks c (x ∷ xs) h = by_byte (x == c) refl (whole_lacks c xs) h
  where
    by_byte : (b : Bool) → (x == c) ≡ b → (position_or_len (is_byte c) xs ≡ length xs → lacks c xs ≡ true)
        → cond (not b) (1 + position_or_len (is_byte c) xs) 0 ≡ suc (length xs) → lacks c (x ∷ xs) ≡ true
    by_byte true is rest h = absurd (omega arith)
    by_byte false is rest h = ap (λ b. not b && lacks c xs) is ∙ rest (omega arith)

abbrev Splits : ℕ → List ℕ → Option (Bor (List ℕ) × Bor (List ℕ)) → Type 0
Splits c t r = MatchOption r (position_or_len (is_byte c) t ≡ length t)
    (λ x. (x.0.now ≡ before_first (is_byte c) t) × (x.1.now ≡ after_first (is_byte c) t)
    × (position_or_len (is_byte c) t < length t))

pub lacks-front : (c : ℕ) (t : List ℕ) (r : Option (Bor (List ℕ) × Bor (List ℕ))) → Splits c t r
    → IfSome r (λ parts. IsTrue (lacks c parts.0.now))
lacks-front c t None h = tt
lacks-front c t (Some x) h = ap (lacks c) h.0 ∙ front_lacks c t

pub lacks-whole : (c : ℕ) (t : List ℕ) (r : Option (Bor (List ℕ) × Bor (List ℕ))) → Splits c t r
    → IfNone r (IsTrue (lacks c t))
lacks-whole c t None h = whole_lacks c t h
lacks-whole c t (Some x) h = tt

-- a text that lacks a byte isn't one with the byte in it
pub lacks-between : (c : ℕ) (xs ys : List ℕ) → lacks c (xs ++ c ∷ ys) ≡ true → ⊥
lacks-between c [] ys h =
    let same = ap (λ b. not b && lacks c ys) (eq-eqb c c refl) in let no : false ≡ true = sym same ∙ h in cc
lacks-between c (x ∷ xs) ys h = lacks-between c xs ys (and_right (not (x == c)) _ h)
