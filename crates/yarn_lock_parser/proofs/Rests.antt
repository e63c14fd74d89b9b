-- What follows a part is a rest of the text.
use Rattle.std.proofs.Common.{
  ◌≡◌,
  ◌==◌,
  ◌⊎◌,
  ◌≢◌,
  inl,
  inr,
  ◌<◌,
  ◌≤◌,
  ℕ,
  Bool,
  true,
  false,
  cond,
  List,
  [],
  ◌∷◌,
  ◌++◌,
  length,
  take,
  refl,
  sym,
  ap,
  ◌∙◌,
  Option,
  Some,
  None,
  arith,
  append_assoc,
  length-append,
  Bor,
}
use Rattle.std.specs.Prelude.{option_map, unwrap_or, codes}
use Rattle.std.specs.Option.{option_or}
use Rattle.std.specs.List.{prefix_len, take_while}
use Rattle.std.specs.Char.{is_ascii_digit}
use Rattle.std.specs.Str.{all_ascii_digits}
use Rattle.std.proofs.lemmas.List.Sums.{take_while-cons}
use Rattle.std.proofs.lemmas.List.{take-append-drop}
use Rattle.std.proofs.lemmas.Bool.Decides.{eqb_tells}
use Rattle.yarn_lock_parser.specs.ByteSet.{is_blank, is_no_line_feed, is_no_quote}
use Rattle.sugar_path.specs.Front.{◌>>=◌, after}
use Rattle.yarn_lock_parser.specs.Front.{
  after_optional,
  run,
  some_run,
  after_blanks,
  after_line_end,
  line_at,
  quoted_at,
  IsRest,
  some,
}
use Rattle.yarn_lock_parser.specs.Metadata.{after_compression}
use Rattle.sugar_path.proofs.Words.{after-some}

-- where two parts fit one after the other, the first fits, and then the next
pub first_and_next : {A B : Type 0} (o : Option A) (next : A → Option B) (y : B) → (o >>= next) ≡ Some y → (x : A)
    × (o ≡ Some x) × (next x ≡ Some y)
first_and_next None next y e = cc
first_and_next (Some x) next y e = (x, refl, e)

-- two parts that fit, for a proof that goes on with what the first part gives
pub step : {A B P : Type 0} (o : Option A) (next : A → Option B) (y : B) → (o >>= next) ≡ Some y
    → ((x : A) → o ≡ Some x → next x ≡ Some y → P) → P
step None next y e go = cc
step (Some x) next y e go = go x refl e

pub inside : {A : Type 0} (x y : A) → Some x ≡ Some y → x ≡ y
inside x y e = cc

-- one of two forms fits
pub either_form : {A : Type 0} (o other : Option A) (y : A) (P : Type 0) → option_or o other ≡ Some y → (o ≡ Some y → P)
    → (other ≡ Some y → P) → P
either_form None other y P e first second = second e
either_form (Some x) other y P e first second = first e

pub mapped : {A B : Type 0} (f : A → B) (o : Option A) (y : B) → option_map f o ≡ Some y → (x : A) × (o ≡ Some x)
    × (f x ≡ y)
mapped f None y e = cc
mapped f (Some x) y e = (x, refl, (let same : f x ≡ y = cc in same))

pub tested : {A : Type 0} (b : Bool) (x y : A) → cond b None (Some x) ≡ Some y → (b ≡ false) × (x ≡ y)
tested true x y e = cc
tested false x y e = (refl, (let same : x ≡ y = cc in same))

-- ---- rests

pub itself : (t : List ℕ) → IsRest t t
itself t = record { prior = []; is = refl }

pub behind : {s t u : List ℕ} → IsRest s t → IsRest t u → IsRest s u
behind {u = u} a b = record {
  prior = a.prior ++ b.prior;
  is = a.is ∙ ap (λ x. a.prior ++ x) b.is
      ∙ sym (append_assoc a.prior b.prior u);
}

pub rest-length : {t r : List ℕ} → IsRest t r → length r ≤ length t
rest-length {r = r} a = omega (arith, ap length a.is, length-append a.prior r)

-- a rest behind a front that isn't empty
pub record IsLater (t rest : List ℕ) : Type 0 where
  pub rest_is : IsRest t rest
  pub shorter : length rest < length t

pub later : {s t u : List ℕ} → IsLater s t → IsRest t u → IsLater s u
later a b = record { rest_is = behind a.rest_is b; shorter = omega (arith, a.shorter, rest-length b) }

pub then_later : {s t u : List ℕ} → IsRest s t → IsLater t u → IsLater s u
then_later a b = record { rest_is = behind a b.rest_is; shorter = omega (arith, b.shorter, rest-length a) }

pub after-rest : (w t r : List ℕ) → after w t ≡ Some r → IsRest t r
after-rest w t r e = record { prior = w; is = after-some w t r e }

pub after-later : (w t r : List ℕ) → 0 < length w → after w t ≡ Some r → IsLater t r
after-later w t r some e = record {
  rest_is = after-rest w t r e;
  shorter =
      omega (arith, some, ap length (after-some w t r e), length-append w r);
}

pub after_byte-later : (c : ℕ) (t r : List ℕ) → after (c ∷ []) t ≡ Some r → IsLater t r
after_byte-later c t r e = let one : 0 < length (c ∷ []) = omega arith in after-later (c ∷ []) t r one e

pub unwrapped : (o : Option (List ℕ)) (t : List ℕ) → ((r : List ℕ) → o ≡ Some r → IsRest t r) → IsRest t (unwrap_or o t)
unwrapped None t h = itself t
unwrapped (Some r) t h = h r refl

pub unwrap_or-now : (o : Option (Bor (List ℕ))) (t : Bor (List ℕ))
    → (unwrap_or o t).now ≡ unwrap_or (option_map (λ x. x.now) o) t.now
unwrap_or-now None t = refl
unwrap_or-now (Some x) t = refl

pub after_optional-rest : (w t : List ℕ) → IsRest t (after_optional w t)
after_optional-rest w t = unwrapped (after w t) t (after-rest w t)

pub run-rest : (set : ℕ → Bool) (t : List ℕ) → IsRest t (run set t).1
unfolding run
run-rest set t = record { prior = take (prefix_len set t) t; is = sym (take-append-drop (prefix_len set t) t) }

pub run-whole : (set : ℕ → Bool) (t : List ℕ) → (run set t).0 ++ (run set t).1 ≡ t
unfolding run
run-whole set t = take-append-drop (prefix_len set t) t

pub some_run-run : (set : ℕ → Bool) (t : List ℕ) (x : List ℕ × List ℕ) → some_run set t ≡ Some x → (0 < length x.0)
    × (run set t ≡ x)
unfolding some_run
some_run-run set t x e =
    by_test (tested (length (run set t).0 == 0) (run set t) x e) (eqb_tells (length (run set t).0) 0)
  where
    by_test : ((length (run set t).0 == 0) ≡ false) × (run set t ≡ x) → ((length (run set t).0 == 0) ≡ true)
        × (length (run set t).0 ≡ 0) ⊎ ((length (run set t).0 == 0) ≡ false) × (length (run set t).0 ≢ 0)
        → (0 < length x.0) × (run set t ≡ x)
    by_test (short, is) (inl w) = absurd (cc)
    by_test (short, is) (inr w) = (rw (← is) (omega (arith, w.1)), is)

pub some_run-later : (set : ℕ → Bool) (t : List ℕ) (x : List ℕ × List ℕ) → some_run set t ≡ Some x → IsLater t x.1
some_run-later set t x e =
    let found = some_run-run set t x e in
    let whole : x.0 ++ x.1 ≡ t = rw found.1 at (run-whole set t) in
    record {
      rest_is = record { prior = x.0; is = sym whole };
      shorter =
          omega (arith, found.0, ap length whole, length-append x.0 x.1);
    }

pub after_blanks-later : (t r : List ℕ) → after_blanks t ≡ Some r → IsLater t r
after_blanks-later t r e = let found = mapped _ _ _ e in rw (← found.2) (some_run-later is_blank t found.0 found.1)

pub after_line_end-later : (t r : List ℕ) → after_line_end t ≡ Some r → IsLater t r
unfolding after_line_end
after_line_end-later t r e = either_form _ _ _ (IsLater t r) e (after-later (10 ∷ []) t r (omega arith))
    (after-later (13 ∷ 10 ∷ []) t r (omega arith))

pub line_at-later : (t : List ℕ) (x : List ℕ × List ℕ) → line_at t ≡ Some x → IsLater t x.1
unfolding line_at
line_at-later t x e =
    let end = first_and_next _ _ _ e in
    let is : end.0 ≡ x.1 = cc in
    rw (← is) (then_later (run-rest is_no_line_feed t) (after_byte-later 10 _ end.0 end.1))

pub quoted_at-later : (t : List ℕ) (x : List ℕ × List ℕ) → quoted_at t ≡ Some x → IsLater t x.1
unfolding quoted_at
quoted_at-later t x e =
    let text = first_and_next _ _ _ e in
    let end = first_and_next _ _ _ text.2 in
    let is : end.0 ≡ x.1 = cc in
    rw (← is) (later (after_byte-later 34 t text.0 text.1) (behind (run-rest is_no_quote text.0)
    (after-rest (34 ∷ []) _ end.0 end.1)))

-- ---- digits

take_while-digits : (t : List ℕ) → all_ascii_digits (take_while is_ascii_digit t) ≡ true
take_while-digits [] = refl
take_while-digits (c ∷ cs) =
    rw (take_while-cons is_ascii_digit c cs) (by_test (is_ascii_digit c) refl (take_while-digits cs))
  where
    by_test : (b : Bool) → is_ascii_digit c ≡ b → all_ascii_digits (take_while is_ascii_digit cs) ≡ true
        → all_ascii_digits (cond b (c ∷ take_while is_ascii_digit cs) []) ≡ true
    by_test true e rest = rw e rest
    by_test false e rest = refl

pub some_run-digits : (t : List ℕ) (x : List ℕ × List ℕ) → some_run is_ascii_digit t ≡ Some x
    → all_ascii_digits x.0 ≡ true
unfolding run
some_run-digits t x e = let found = some_run-run is_ascii_digit t x e in rw (← found.1) (take_while-digits t)

-- ---- a cache key

pub after_compression-later : (t r : List ℕ) → after_compression t ≡ Some r → IsLater t r
unfolding after_compression
after_compression-later t r e =
    let some : 0 < length (codes "c") = omega arith in
    let digits = first_and_next _ _ _ e in
    let level = first_and_next _ _ _ digits.2 in
    let is : level.0.1 ≡ r = cc in
    rw (← is) (later (after-later (codes "c") t digits.0 some digits.1)
    (some_run-later is_ascii_digit digits.0 level.0 level.1).rest_is)

pub key-rest : (key : List ℕ) (digits : List ℕ × List ℕ) → some_run is_ascii_digit key ≡ Some digits
    → IsRest key (unwrap_or (after_compression digits.1) digits.1)
key-rest key digits e = behind (some_run-later is_ascii_digit key digits e).rest_is
    (unwrapped (after_compression digits.1) digits.1 (λ r found. (after_compression-later digits.1 r found).rest_is))
