use Rattle.std.proofs.Common.{
  ◌≡◌,
  ◌≢◌,
  ◌<◌,
  ◌++◌,
  ◌∷◌,
  [],
  List,
  ℕ,
  Option,
  Some,
  None,
  Bor,
  length,
  true,
  refl,
  ap,
  ◌∙◌,
  lit<,
}
use Rattle.std.specs.Prelude.{MatchOption}
use Rattle.std.proofs.lemmas.Str.Pattern.{strip_suffix_char}
use Rattle.npm_req.specs.Front.{before_all, is_blank}
use Rattle.npm_req.proofs.Ends.{before_all-byte, before_blanks-none, length-byte}
use Rattle.npm_req.proofs.front.before_blank.Goals as goal

one_less : (b : ℕ) (t front : List ℕ) → is_blank b ≡ true → t ≡ front ++ (b ∷ [])
    → (before_all is_blank t ≡ before_all is_blank front) × (length front < length t)
one_less b t front h e = (ap (before_all is_blank) e ∙ before_all-byte is_blank b front h, length-byte b t front e)

by_tab : (t : List ℕ) (r : Option (Bor (List ℕ))) → ((front : List ℕ) → t ≢ front ++ (32 ∷ []))
    → MatchOption r ((front : List ℕ) → t ≢ front ++ (9 ∷ [])) (λ x. t ≡ x.now ++ (9 ∷ []))
    → MatchOption r (before_all is_blank t ≡ t) (λ front. (before_all is_blank t ≡ before_all is_blank front.now)
    × (length front.now < length t))
by_tab t None space h = before_blanks-none t space h
by_tab t (Some front) space h = one_less 9 t front.now refl h

pub returns-in-Some : goal.returns-in-Some
returns-in-Some c =
    let ends = rw c.in-Some.is at (strip_suffix_char 32 c.args.text.now c.strip_suffix.result
    c.strip_suffix.ensures.cases (lit< tt)) in
    one_less 32 c.args.text.now c.in-Some.front.now refl ends

pub returns-in-None : goal.returns-in-None
returns-in-None c =
    let space = rw c.in-None.is at (strip_suffix_char 32 c.args.text.now c.strip_suffix.result
    c.strip_suffix.ensures.cases (lit< tt)) in
    by_tab c.args.text.now c.strip_suffix-in-None.result space
    (strip_suffix_char 9 c.args.text.now c.strip_suffix-in-None.result c.strip_suffix-in-None.ensures.cases (lit< tt))
