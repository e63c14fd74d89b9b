-- A text with `/` in place of `\`, and names in the order of a text.
use Rattle.std.proofs.Common.{
  sym,
  bytes_eq,
  inr,
  inl,
  Option,
  Some,
  None,
  ◌⊎◌,
  ◌≢◌,
  ◌≡◌,
  ℕ,
  suc,
  ◌+◌,
  ◌-◌,
  ◌<◌,
  ◌==◌,
  ◌||◌,
  Bool,
  true,
  false,
  not,
  cond,
  List,
  [],
  ◌∷◌,
  ◌++◌,
  length,
  get_or,
  take,
  drop,
  map,
  reverse,
  refl,
  ap,
  subst,
  ◌∙◌,
  arith,
}
use Rattle.std.specs.Prelude.{is_some}
use Rattle.std.specs.List.{onto_first, position_or_len, before_first, after_first}
use Rattle.std.proofs.lemmas.List.{map-append, reverse-append}
use Rattle.memchr.specs.Find.{IsFirstByte, is_byte}
use Rattle.sugar_path.specs.Path.{Path, IsPath, IsCleanPath, parts, is_absolute, ends_in_slash, by_parts, clean}
use Rattle.pnp_core.specs.NormalizePath.{pieces, location_path}
use Rattle.pnp_core.specs.Slashed.{slashed, names_of}
use Rattle.sugar_path.proofs.Parts.{IsPath-clean, text_of-absolute}
use Rattle.std.proofs.lemmas.Bool.Decides.{eqb_tells}
use denote.Ref.{Bor}

-- a text without `\` stays
pub slashed-none : (t : List ℕ) → position_or_len (λ c. c == 92) t ≡ length t → slashed t ≡ t
slashed-none [] e = refl
slashed-none (x ∷ xs) e = by_test (x == 92) e (slashed-none xs)
  where
    by_test : (b : Bool) → cond (not b) (1 + position_or_len (λ c. c == 92) xs) 0 ≡ suc (length xs)
        → (position_or_len (λ c. c == 92) xs ≡ length xs → slashed xs ≡ xs) → cond b 47 x ∷ slashed xs ≡ x ∷ xs
    by_test true e rest = absurd (omega arith)
    by_test false e rest = ap (λ s. x ∷ s) (rest (omega arith))

-- a text stays where no byte is found that is a `\`
pub slashed-lacks : (t : List ℕ) (r : Option ℕ) → IsFirstByte (is_byte 92) t r → is_some r ≡ false → slashed t ≡ t
slashed-lacks t (Some n) first is = absurd (cc)
slashed-lacks t None none is = by_bytes t (λ k less. none k (omega arith) less)
  where
    by_bytes : (t : List ℕ) → ((k : ℕ) → k < length t → is_byte 92 (get_or t k 0) ≡ true → ⊥) → slashed t ≡ t
    by_bytes [] lacks = refl
    by_bytes (x ∷ xs) lacks = by_test (x == 92) refl (by_bytes xs (λ k less. lacks (suc k) (omega arith)))
      where
        by_test : (b : Bool) → (x == 92) ≡ b → slashed xs ≡ xs → cond b 47 x ∷ slashed xs ≡ x ∷ xs
        by_test true e rest = absurd (lacks 0 (omega arith) e)
        by_test false e rest = ap (λ s. x ∷ s) rest

-- the first `\` becomes a `/`, and the rest goes on
pub slashed-first : (t : List ℕ) → position_or_len (λ c. c == 92) t < length t
    → slashed t ≡ before_first (λ c. c == 92) t ++ 47 ∷ slashed (after_first (λ c. c == 92) t)
slashed-first [] lt = absurd (omega arith)
slashed-first (x ∷ xs) lt = by_test (x == 92) lt (slashed-first xs)
  where
    by_test : (b : Bool) → cond (not b) (1 + position_or_len (λ c. c == 92) xs) 0 < suc (length xs)
        → (position_or_len (λ c. c == 92) xs < length xs → slashed xs ≡ take (position_or_len (λ c. c == 92) xs) xs
        ++ 47 ∷ slashed (drop (position_or_len (λ c. c == 92) xs + 1) xs))
        → cond b 47 x ∷ slashed xs ≡ take (cond (not b) (1 + position_or_len (λ c. c == 92) xs) 0) (x ∷ xs)
        ++ 47 ∷ slashed (drop (cond (not b) (1 + position_or_len (λ c. c == 92) xs) 0 + 1) (x ∷ xs))
    by_test true lt rest = refl
    by_test false lt rest =
        let k = position_or_len (λ c. c == 92) xs in
        let one : 1 + k ≡ suc k = omega arith in
        let two : suc k + 1 ≡ suc (suc k) = omega arith in
        let next : k + 1 ≡ suc k = omega arith in
        rw (one, two) (ap (λ s. x ∷ s) (rw next at rest (omega arith)))

-- its parts are the pieces of the text
pub parts-slashed : (t : List ℕ) → parts (slashed t) ≡ pieces t
parts-slashed [] = refl
parts-slashed (x ∷ xs) = rw (parts-slashed xs) (by_test (x == 92) (x == 47) refl)
  where
    by_test : (b c : Bool) → (x == 47) ≡ c → cond (cond b 47 x == 47) ([] ∷ pieces xs)
        (onto_first (cond b 47 x) (pieces xs)) ≡ cond (c || b) ([] ∷ pieces xs) (onto_first x (pieces xs))
    by_test true true e = refl
    by_test true false e = refl
    by_test false true e = rw e refl
    by_test false false e = rw e refl

-- read from `/` it names the location of the text
pub clean-slashed : (t : List ℕ) → clean [] (slashed t) ≡ location_path t
unfolding clean location_path
clean-slashed t = rw (parts-slashed t) (by_test (is_absolute (slashed t)))
  where
    by_test : (b : Bool) → by_parts (cond b [] []) (pieces t) ≡ by_parts [] (pieces t)
    by_test true = refl
    by_test false = refl

-- one more name is the path's last
pub names_of-push : (xs : List (Bor (List ℕ))) (x : Bor (List ℕ)) → names_of (xs ++ x ∷ []) ≡ x.now ∷ names_of xs
names_of-push xs x =
    ap reverse (map-append (λ n. n.now) xs (x ∷ [])) ∙ reverse-append (map (λ n. n.now) xs) (x.now ∷ [])

-- the last byte, by its index
pub ends_in_slash-last : (t : List ℕ) → ends_in_slash t ≡ (get_or t (length t - 1) 0 == 47)
ends_in_slash-last [] = refl
ends_in_slash-last (c ∷ []) = refl
ends_in_slash-last (c ∷ d ∷ cs) = let next : length (c ∷ d ∷ cs) - 1 ≡ suc (length (d ∷ cs) - 1) = omega arith in
    rw next (ends_in_slash-last (d ∷ cs))

-- what a text names is a path
pub IsPath-location_path : (t : List ℕ) → IsPath (location_path t)
IsPath-location_path t = let P : Path → Type 0 = IsPath in subst P (clean-slashed t) (IsPath-clean [] (slashed t) tt)

-- a clean path's text is absolute
pub clean-is_absolute : (t : List ℕ) → IsCleanPath t → is_absolute t ≡ true
clean-is_absolute t h = rw h.2 (text_of-absolute h.0)

-- a text is empty where its length is 0
pub bytes_eq-nil : (t : List ℕ) → bytes_eq t [] ≡ (length t == 0)
bytes_eq-nil [] = refl
bytes_eq-nil (c ∷ cs) = by_test (eqb_tells (length (c ∷ cs)) 0)
  where
    by_test : ((length (c ∷ cs) == 0) ≡ true) × (length (c ∷ cs) ≡ 0) ⊎ ((length (c ∷ cs) == 0) ≡ false)
        × (length (c ∷ cs) ≢ 0) → false ≡ (length (c ∷ cs) == 0)
    by_test (inl w) = absurd (omega arith)
    by_test (inr w) = sym w.0
