-- A word at a text's front or end: what follows it, and what stands before it.
use Rattle.std.proofs.Common.{
  ◌≡◌,
  ◌≢◌,
  ◌-◌,
  ◌==◌,
  ◌⊎◌,
  ℕ,
  Bool,
  true,
  false,
  List,
  [],
  ◌∷◌,
  ◌++◌,
  length,
  take,
  drop,
  refl,
  sym,
  ap,
  ◌∙◌,
  Option,
  Some,
  None,
  Bor,
  inl,
  inr,
  reverse,
}
use Rattle.std.proofs.lemmas.List.{reverse-append, reverse-reverse}
use Rattle.std.specs.Prelude.{option_map, MatchOption}
use Rattle.std.specs.Str.Pattern.{FindsTextPrefix, StripsPrefix, LacksTextAt, FindsTextSuffix, StripsSuffix}
use Rattle.std.proofs.lemmas.Bool.Decides.{eqb_tells}
use Rattle.sugar_path.specs.Front.{after, before}

-- two numbers that differ are told apart
pub told_apart : (a b : ℕ) → a ≢ b → (a == b) ≡ false
told_apart a b ne = by_test (eqb_tells a b)
  where
    by_test : ((a == b) ≡ true) × (a ≡ b) ⊎ ((a == b) ≡ false) × (a ≢ b) → (a == b) ≡ false
    by_test (inl w) = absurd (ne w.1)
    by_test (inr w) = w.0

-- a number is the same as itself
pub tells_same : (a : ℕ) → (a == a) ≡ true
tells_same a = by_test (eqb_tells a a)
  where
    by_test : ((a == a) ≡ true) × (a ≡ a) ⊎ ((a == a) ≡ false) × (a ≢ a) → (a == a) ≡ true
    by_test (inl w) = w.0
    by_test (inr w) = absurd (w.1 refl)

-- ---- a word at the front

pub after-append : (w t : List ℕ) → after w (w ++ t) ≡ Some t
unfolding after
after-append [] t = refl
after-append (c ∷ cs) t = rw (tells_same c) (after-append cs t)

pub after-some : (w s t : List ℕ) → after w s ≡ Some t → s ≡ w ++ t
unfolding after
after-some [] s t e = cc
after-some (c ∷ cs) [] t e = cc
after-some (c ∷ cs) (d ∷ s) t e = by_test (eqb_tells d c) (after-some cs s t)
  where
    by_test : ((d == c) ≡ true) × (d ≡ c) ⊎ ((d == c) ≡ false) × (d ≢ c) → (after cs s ≡ Some t → s ≡ cs ++ t)
        → d ∷ s ≡ c ∷ cs ++ t
    by_test (inl w) rest = let found = rw w.0 at e in let tail = rest found in rw (w.1, tail) refl
    by_test (inr w) rest = let none = rw w.0 at e in cc

pub after-lacks : (w s : List ℕ) → LacksTextAt w s 0 → after w s ≡ None
after-lacks w s lacks = by_found (after w s) (after-some w s)
  where
    by_found : (o : Option (List ℕ)) → ((t : List ℕ) → o ≡ Some t → s ≡ w ++ t) → o ≡ None
    by_found None h = refl
    by_found (Some t) h = absurd (lacks t (h t refl))

pub after-strip_prefix : (w s : List ℕ) (r : Option (Bor (List ℕ)))
    → MatchOption r (FindsTextPrefix w s None) (λ x. StripsPrefix (FindsTextPrefix w) s x.now)
    → option_map (λ t. t.now) r ≡ after w s
after-strip_prefix w s None h = sym (after-lacks w s h)
after-strip_prefix w s (Some x) (n, found, is, len) =
    ap Some is ∙ sym (ap (after w) found.1 ∙ after-append w (drop n s))

-- ---- a word at the end

pub before-append : (w t : List ℕ) → before w (t ++ w) ≡ Some t
unfolding before
before-append w t = rw (reverse-append t w, after-append (reverse w) (reverse t), reverse-reverse t) refl

pub before-some : (w s t : List ℕ) → before w s ≡ Some t → s ≡ t ++ w
unfolding before
before-some w s t e = by_found (after (reverse w) (reverse s)) refl e
  where
    by_found : (o : Option (List ℕ)) → after (reverse w) (reverse s) ≡ o → option_map reverse o ≡ Some t → s ≡ t ++ w
    by_found None found e = cc
    by_found (Some r) found e =
        let turned = after-some (reverse w) (reverse s) r found in
        let is : reverse r ≡ t = cc in
        sym (reverse-reverse s) ∙ ap reverse turned ∙ reverse-append (reverse w) r
        ∙ ap (λ x. x ++ reverse (reverse w)) is ∙ ap (λ x. t ++ x) (reverse-reverse w)

pub before-lacks : (w s : List ℕ) → ((front : List ℕ) → s ≢ front ++ w) → before w s ≡ None
before-lacks w s lacks = by_found (before w s) (before-some w s)
  where
    by_found : (o : Option (List ℕ)) → ((t : List ℕ) → o ≡ Some t → s ≡ t ++ w) → o ≡ None
    by_found None h = refl
    by_found (Some t) h = absurd (lacks t (h t refl))

pub before-strip_suffix : (w s : List ℕ) (r : Option (Bor (List ℕ)))
    → MatchOption r (FindsTextSuffix w s None) (λ x. StripsSuffix (FindsTextSuffix w) s x.now)
    → option_map (λ t. t.now) r ≡ before w s
before-strip_suffix w s None h = sym (before-lacks w s h)
before-strip_suffix w s (Some x) (n, found, is, len) =
    ap Some is ∙ sym (ap (before w) found.1 ∙ before-append w (take (length s - n) s))
