-- Texts in place of each `*`.
use Rattle.std.proofs.Common.{
  ◌≡◌,
  ◌+◌,
  ◌==◌,
  ◌||◌,
  ℕ,
  zero,
  suc,
  inl,
  inr,
  Bool,
  true,
  false,
  cond,
  List,
  [],
  ◌∷◌,
  ◌++◌,
  take,
  drop,
  refl,
  sym,
  ap,
  ◌∙◌,
  arith,
  lit<,
}
use Rattle.std.specs.Prelude.{IfOk, Result, Ok, Err, String, string_bytes}
use Rattle.std.specs.Global.{Global}
use Rattle.std.specs.Str.Pattern.{FindsChar}
use Rattle.std.specs.Str.{NoCharPasses}
use Rattle.std.specs.Str.Replace.{ReplacesMatches, ContinuesAfterMatch}
use Rattle.std.proofs.lemmas.Bool.{false≢true}
use Rattle.std.proofs.lemmas.Grind.{flat_map-append}
use Rattle.std.proofs.lemmas.List.{take-append-drop}
use Rattle.std.proofs.lemmas.Str.Pattern.{NoCharPasses-char, drop_at_char}
use Rattle.star_texts.specs.Star.{is_star, has_star, replaced}
use Rattle.star_texts.specs.Laws.{ReplacedReadsBack}
use Rattle.star_texts.proofs.Stars.{star_within, star_parts}
use Rattle.star_texts.proofs.Ends.{rest_stands_between}

-- a text without `*` stays
replaced-none : (text rest : List ℕ) → has_star text ≡ false → replaced text rest ≡ text
replaced-none [] rest h = refl
replaced-none (b ∷ text) rest h = by_test (b == 42) h (replaced-none text rest)
  where
    by_test : (r : Bool) → r || has_star text ≡ false → (has_star text ≡ false → replaced text rest ≡ text)
        → cond r rest (b ∷ []) ++ replaced text rest ≡ b ∷ text
    by_test true x later = absurd (false≢true (sym x))
    by_test false x later = ap (λ xs. b ∷ xs) (later x)

replaced-append : (text more rest : List ℕ) → replaced (text ++ more) rest ≡ replaced text rest ++ replaced more rest
replaced-append text more rest = flat_map-append (λ b. cond (is_star b) rest (b ∷ [])) text more

-- what replaces the only `*` is read back
pub replaced_reads_back : ReplacedReadsBack
replaced_reads_back text before behind rest e =
    let parts = (star_parts.only text before behind).0 e in
    let made : replaced text rest ≡ before ++ (rest ++ behind) =
    ap (λ xs. replaced xs rest) parts.0 ∙ replaced-append before (42 ∷ behind) rest
    ∙ rw (replaced-none before rest parts.1, replaced-none behind rest parts.2) refl
    in (rest_stands_between (replaced text rest) before behind rest).1 made

-- std's `replace`
starless : (text : List ℕ) → NoCharPasses (λ d. d == 42) text → has_star text ≡ false
starless text none = by_test (has_star text) refl
  where
    by_test : (r : Bool) → has_star text ≡ r → r ≡ false
    by_test false is = refl
    by_test true is = let at = star_within text is in absurd (NoCharPasses-char 42 text at.0 none (lit< tt) at.1 at.2)

replaced-matches : (n : ℕ) (p : ℕ) (text rest made : List ℕ) → p ≡ 42
    → ReplacesMatches FindsChar (λ c d. d ≡ c) rest n p text made → made ≡ replaced text rest
replaced-matches zero p text rest made is h = h.1 ∙ sym (replaced-none text rest (starless text (rw is at h.0)))
replaced-matches (suc n) p text rest made is (a, b, q, more, found, kept, on, e) =
    by_end on (replaced-matches n q (drop b text) rest more (kept ∙ is))
  where
    at : drop a text ≡ 42 ∷ drop b text
    at = drop_at_char 42 text a b (rw is at found.1) (lit< tt)

    front : replaced (take a text) rest ≡ take a text
    front = replaced-none (take a text) rest (starless (take a text) (rw is at found.0))

    whole : replaced text rest ≡ take a text ++ (rest ++ replaced (drop b text) rest)
    whole = ap (λ xs. replaced xs rest) (sym (take-append-drop a text))
        ∙ replaced-append (take a text) (drop a text) rest ∙ rw (front, at) refl

    passes : b ≡ a + 1
    passes = rw is at found.1.ends

    by_end : ContinuesAfterMatch FindsChar (λ c d. d ≡ c) rest (ReplacesMatches FindsChar (λ c d. d ≡ c) rest n q) text
        a b more → (ReplacesMatches FindsChar (λ c d. d ≡ c) rest n q (drop b text) more
        → more ≡ replaced (drop b text) rest) → made ≡ replaced text rest
    by_end (inl (lt, next)) later = e ∙ rw (later next) (sym whole)
    by_end (inr (same, next)) later = absurd (omega (arith, same, passes))

pub replaced-told : {E : Type 0} (r : Result (String Global) E) (text rest : List ℕ)
    → IfOk r (λ made. (n : ℕ) × ReplacesMatches FindsChar (λ a b. b ≡ a) rest n 42 text (string_bytes made))
    → IfOk r (λ made. string_bytes made ≡ replaced text rest)
replaced-told (Ok made) text rest h = replaced-matches h.0 42 text rest (string_bytes made) refl h.1
replaced-told (Err e) text rest h = h
