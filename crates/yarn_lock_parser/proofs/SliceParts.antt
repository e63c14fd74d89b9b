-- What the words at a text's front say is a slice of the text.
use Rattle.std.proofs.Common.{
  Bool,
  ◌≡◌,
  ◌-◌,
  ℕ,
  zero,
  suc,
  List,
  [],
  ◌∷◌,
  ◌++◌,
  length,
  take,
  drop,
  refl,
  sym,
  ap,
  ◌∙◌,
  Option,
  Some,
  None,
  reverse,
  append_assoc,
  append-nil,
}
use Rattle.std.specs.Prelude.{unwrap_or}
use Rattle.std.specs.List.{AllByRecursion}
use Rattle.std.proofs.lemmas.List.{take-append-drop, reverse-append, reverse-reverse}
use Rattle.yarn_lock_parser.specs.ByteSet.{is_quote, is_no_line_feed, is_no_quote}
use Rattle.sugar_path.specs.Front.{after, before}
use Rattle.yarn_lock_parser.specs.Front.{
  before_optional,
  run,
  some_run,
  line_at,
  quoted_at,
  front,
  IsRest,
  up_to,
  every,
  some,
}
use Rattle.yarn_lock_parser.specs.Dependencies.{before_quotes, trimmed}
use Rattle.yarn_lock_parser.specs.Slices.{IsSlice}
use Rattle.sugar_path.proofs.Words.{before-some}
use Rattle.yarn_lock_parser.proofs.Rests.{step, tested, itself, behind, run-rest, run-whole, some_run-run, after-rest}
use Rattle.yarn_lock_parser.proofs.Every.{Leaves, up_to-none, up_to-some}

pub empty-slice : (t : List ℕ) → IsSlice t []
empty-slice t = record { prior = []; rest = t; is = refl }

pub within : {t s x : List ℕ} → IsSlice t s → IsSlice s x → IsSlice t x
within {t = t} {s = s} {x = x} a b = record {
  prior = a.prior ++ b.prior;
  rest = b.rest ++ a.rest;
  is = a.is
      ∙ ap (λ y. a.prior ++ y) inner ∙ sym (append_assoc a.prior b.prior (x ++ (b.rest ++ a.rest)));
}
  where
    inner : s ++ a.rest ≡ b.prior ++ (x ++ (b.rest ++ a.rest))
    inner = ap (λ y. y ++ a.rest) b.is ∙ append_assoc b.prior (x ++ b.rest) a.rest
        ∙ ap (λ y. b.prior ++ y) (append_assoc x b.rest a.rest)

pub rest-slice : {t r : List ℕ} → IsRest t r → IsSlice t r
rest-slice {r = r} a = record { prior = a.prior; rest = []; is = a.is ∙ ap (λ y. a.prior ++ y) (sym (append-nil r)) }

pub slice-behind : {t r x : List ℕ} → IsRest t r → IsSlice r x → IsSlice t x
slice-behind a b = within (rest-slice a) b

pub take-slice : (n : ℕ) (t : List ℕ) → IsSlice t (take n t)
take-slice n t = record { prior = []; rest = drop n t; is = sym (take-append-drop n t) }

pub front-slice : (t rest : List ℕ) → IsSlice t (front t rest)
unfolding front
front-slice t rest = take-slice (length t - length rest) t

pub run-slice : (set : ℕ → Bool) (t : List ℕ) → IsSlice t (run set t).0
run-slice set t = record { prior = []; rest = (run set t).1; is = sym (run-whole set t) }

pub some_run-slice : (set : ℕ → Bool) (t : List ℕ) (x : List ℕ × List ℕ) → some_run set t ≡ Some x → IsSlice t x.0
some_run-slice set t x e = let found = some_run-run set t x e in rw (← found.1) (run-slice set t)

pub line_at-slice : (t : List ℕ) (x : List ℕ × List ℕ) → line_at t ≡ Some x → IsSlice t x.0
unfolding line_at
line_at-slice t x e = step (after (10 ∷ []) (run is_no_line_feed t).1) (λ rest. Some ((run is_no_line_feed t).0, rest))
    x e (λ rest rest-is e₁.
    let is : (run is_no_line_feed t).0 ≡ x.0 = cc in
    rw (← is) (run-slice is_no_line_feed t))

pub quoted_at-slice : (t : List ℕ) (x : List ℕ × List ℕ) → quoted_at t ≡ Some x → IsSlice t x.0
unfolding quoted_at
quoted_at-slice t x e = step _ _ _ e (λ text text-is e₁. step (after (34 ∷ []) (run is_no_quote text).1)
    (λ rest. Some ((run is_no_quote text).0, rest)) x e₁ (λ rest rest-is e₂.
    let is : (run is_no_quote text).0 ≡ x.0 = cc in
    rw (← is) (slice-behind (after-rest (34 ∷ []) t text text-is) (run-slice is_no_quote text))))

pub before-slice : (w t x : List ℕ) → before w t ≡ Some x → IsSlice t x
before-slice w t x e = record { prior = []; rest = w; is = before-some w t x e }

pub before_optional-slice : (w t : List ℕ) → IsSlice t (before_optional w t)
before_optional-slice w t = by_found (before w t) refl
  where
    by_found : (o : Option (List ℕ)) → before w t ≡ o → IsSlice t (unwrap_or o t)
    by_found None e = rest-slice (itself t)
    by_found (Some x) e = before-slice w t x e

before_quotes-slice : (s : List ℕ) → IsSlice s (before_quotes s)
unfolding before_quotes
before_quotes-slice s = record {
  prior = [];
  rest = reverse (run is_quote (reverse s)).0;
  is =
      sym (sym (reverse-append (run is_quote (reverse s)).0 (run is_quote (reverse s)).1)
      ∙ ap reverse (run-whole is_quote (reverse s)) ∙ reverse-reverse s);
}

pub trimmed-slice : (t : List ℕ) → IsSlice t (trimmed t)
trimmed-slice t = slice-behind (run-rest is_quote t) (before_quotes-slice (run is_quote t).1)

-- ---- as many parts as fit

-- what holds of a part of a rest holds of a part of the text
abbrev pub Spreads : {A : Type 0} → (List ℕ → A → Type 0) → Type 0
Spreads {A} P = (s t : List ℕ) (a : A) → IsRest s t → P t a → P s a

abbrev pub Says : {A : Type 0} → (List ℕ → Option (A × List ℕ)) → (List ℕ → A → Type 0) → Type 0
Says {A} part P = (t : List ℕ) (x : A × List ℕ) → part t ≡ Some x → P t x.0

one_more : {A : Type 0} (P : List ℕ → A → Type 0) (part : List ℕ → Option (A × List ℕ)) (s : List ℕ) (n : ℕ)
    (t : List ℕ) (o : Option (A × List ℕ)) → part t ≡ o
    → ((x : A × List ℕ) → part t ≡ Some x → P s x.0 × AllByRecursion (P s) (up_to part n x.1).0)
    → AllByRecursion (P s) (up_to part (suc n) t).0
one_more P part s n t None e h = rw (up_to-none part (suc n) t e) tt
one_more P part s n t (Some x) e h = rw (up_to-some part n t x e) (h x e)

up_to-all : {A : Type 0} (P : List ℕ → A → Type 0) → Spreads P → (part : List ℕ → Option (A × List ℕ)) → Leaves part
    → Says part P → (s : List ℕ) (n : ℕ) (t : List ℕ) → IsRest s t → AllByRecursion (P s) (up_to part n t).0
up_to-all P spreads part leaves says s zero t r = tt
up_to-all P spreads part leaves says s (suc n) t r =
    one_more P part s n t (part t) refl (λ x e. (
      spreads s t x.0 r (says t x e),
      up_to-all P spreads part leaves says s n x.1 (behind r (leaves t x e).rest_is),
    ))

pub every-all : {A : Type 0} (P : List ℕ → A → Type 0) → Spreads P → (part : List ℕ → Option (A × List ℕ)) → Leaves part
    → Says part P → (t : List ℕ) → AllByRecursion (P t) (every part t).0
unfolding every
every-all P spreads part leaves says t = up_to-all P spreads part leaves says t (length t) t (itself t)

pub some-all : {A : Type 0} (P : List ℕ → A → Type 0) → Spreads P → (part : List ℕ → Option (A × List ℕ)) → Leaves part
    → Says part P → (t : List ℕ) (x : List A × List ℕ) → some part t ≡ Some x → AllByRecursion (P t) x.0
unfolding some
some-all P spreads part leaves says t x e =
    let found = tested _ _ _ e in rw (← found.1) (every-all P spreads part leaves says t)
