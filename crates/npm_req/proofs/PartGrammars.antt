-- Partial versions and parts of ranges are read exactly where the grammar has them.
use Rattle.std.proofs.Common.{
  ◌≡◌,
  ◌<◌,
  ◌==◌,
  ◌⊎◌,
  inl,
  inr,
  ℕ,
  Bool,
  true,
  false,
  not,
  cond,
  List,
  [],
  ◌∷◌,
  ◌++◌,
  refl,
  sym,
  ap,
  ◌∙◌,
  subst,
  Option,
  Some,
  None,
  Ok,
  arith,
}
use Rattle.std.specs.Prelude.{◌&&◌, ◌||◌, codes, option_map, unwrap_or}
use Rattle.std.specs.Char.{digit_value, is_ascii_digit}
use Rattle.std.specs.Fmt.{decimal}
use Rattle.std.specs.List.{join_with_byte, list_all}
use Rattle.std.specs.Option.{option_or}
use Rattle.std.specs.Str.Parse.{IsNumeral}
use Rattle.std.proofs.lemmas.Bool.Decides.{eqb_tells}
use Rattle.std.proofs.lemmas.Fmt.{decimal_is_IsNumeral}
use Rattle.std.proofs.lemmas.List.Splits.{join_with_byte-slice_split}
use Rattle.sugar_path.specs.Front.{after}
use Rattle.semver.specs.Grammar.{has_leading_zero}
use Rattle.semver.specs.Order.{is_numeric, parts}
use Rattle.semver.specs.Parse.{Parts}
use Rattle.npm_req.specs.Comparators.{comparators}
use Rattle.npm_req.specs.Front.{after_all, is_space}
use Rattle.npm_req.specs.Grammar.{
  IsSemver,
  Component,
  an_x,
  a_number,
  Components,
  one,
  two,
  three,
  PartialVersion,
  whole,
  in_components,
  Mark,
  caret,
  tilde,
  tilde_above,
  at_least,
  above,
  at_most,
  below,
  equal,
  unmarked,
  IsPart,
  PartialsAgree,
  PartsAgree,
}
use Rattle.npm_req.specs.Number.{is_number, number, value}
use Rattle.npm_req.specs.Part.{Reading, after_sign, behind, operator_of, or_equal, part, part_with}
use Rattle.npm_req.specs.Partial as read
use Rattle.npm_req.specs.Partial.{component, components, is_x, of_components, partial_of, without_build}
use Rattle.npm_req.specs.Version.{semver_of}
use Rattle.npm_req.specs.Word.{after_word, ends_part, word}
use Rattle.npm_req.specs.declared.comparator.Comparator.{Comparator}
use Rattle.npm_req.specs.declared.comparator.Operator.{Operator}
use Rattle.npm_req.specs.declared.comparator.Operator.TheVariants as op
use Rattle.npm_req.specs.declared.partial.Partial.{Partial}
use Rattle.npm_req.specs.declared.partial.Partial.TheVariants.{Full}
use Rattle.npm_req.proofs.Grammars.{
  Told,
  solid,
  solid-by,
  both,
  two-solid,
  version-solid,
  front-parts,
  after_all-behind,
  semver-sound,
  semver-complete,
}

-- ---- components

-- a number isn't an x
number-no_x : (t : List ℕ) (n : ℕ) → number t ≡ Some n → is_x t ≡ false
number-no_x [] n h = refl
number-no_x (c ∷ d ∷ ds) n h = refl
number-no_x (c ∷ []) n h = by_tests (eqb_tells c 120) (eqb_tells c 88) (eqb_tells c 42)
  where
    by_tests : Told c 120 → Told c 88 → Told c 42 → is_x (c ∷ []) ≡ false
    by_tests (inl w) v u = let wrong = ap (λ (d : ℕ). number (d ∷ [])) (sym w.1) ∙ h in cc
    by_tests (inr w) (inl v) u = let wrong = ap (λ (d : ℕ). number (d ∷ [])) (sym v.1) ∙ h in cc
    by_tests (inr w) (inr v) (inl u) = let wrong = ap (λ (d : ℕ). number (d ∷ [])) (sym u.1) ∙ h in cc
    by_tests (inr w) (inr v) (inr u) = rw (w.0, v.0, u.0) refl

component-sound : (t : List ℕ) (x : Option ℕ) → component t ≡ Some x → Component t x
component-sound t x h = by_tests (is_x t) refl (number t) refl h
  where
    by_tests : (b : Bool) → is_x t ≡ b → (o : Option ℕ) → number t ≡ o → cond b (Some None) (option_map Some o) ≡ Some x
        → Component t x
    by_tests true e o f h = let same : None ≡ x = cc in subst (Component t) same (an_x e)
    by_tests false e None f h = cc
    by_tests false e (Some n) f h = let same : Some n ≡ x = cc in subst (Component t) same (a_number f)

component-complete : (t : List ℕ) (x : Option ℕ) → Component t x → component t ≡ Some x
component-complete t x (an_x e) = rw e refl
component-complete t x (a_number {n = n} e) = rw (number-no_x t n e, e) refl

components-sound : (ts : List (List ℕ)) (p : Partial) → components ts ≡ Some p → Components ts p
components-sound [] p h = cc
components-sound (a ∷ b ∷ c ∷ d ∷ ds) p h = cc
components-sound (a ∷ []) p h = by_one (component a) refl h
  where
    by_one : (x : Option (Option ℕ)) → component a ≡ x → read.three x (Some None) (Some None) ≡ Some p
        → Components (a ∷ []) p
    by_one None e h = cc
    by_one (Some x) e h =
        let same : of_components x None None ≡ p = cc in subst (Components (a ∷ [])) same (one (component-sound a x e))
components-sound (a ∷ b ∷ []) p h = by_two (component a) refl (component b) refl h
  where
    by_two : (x : Option (Option ℕ)) → component a ≡ x → (y : Option (Option ℕ)) → component b ≡ y
        → read.three x y (Some None) ≡ Some p → Components (a ∷ b ∷ []) p
    by_two None e y f h = cc
    by_two (Some x) e None f h = cc
    by_two (Some x) e (Some y) f h = let same : of_components x y None ≡ p = cc in
        subst (Components (a ∷ b ∷ [])) same (two (component-sound a x e) (component-sound b y f))
components-sound (a ∷ b ∷ c ∷ []) p h = by_three (component a) refl (component b) refl (component c) refl h
  where
    by_three : (x : Option (Option ℕ)) → component a ≡ x → (y : Option (Option ℕ)) → component b ≡ y
        → (z : Option (Option ℕ)) → component c ≡ z → read.three x y z ≡ Some p → Components (a ∷ b ∷ c ∷ []) p
    by_three None e y f z g h = cc
    by_three (Some x) e None f z g h = cc
    by_three (Some x) e (Some y) f None g h = cc
    by_three (Some x) e (Some y) f (Some z) g h = let same : of_components x y z ≡ p = cc in
        subst (Components (a ∷ b ∷ c ∷ [])) same (three (component-sound a x e) (component-sound b y f)
        (component-sound c z g))

components-complete : (ts : List (List ℕ)) (p : Partial) → Components ts p → components ts ≡ Some p
components-complete ts p (one {a = a} {x = x} i) = rw (component-complete a x i) refl
components-complete ts p (two {a = a} {b = b} {x = x} {y = y} i j) =
    rw (component-complete a x i, component-complete b y j) refl
components-complete ts p (three {a = a} {b = b} {c = c} {x = x} {y = y} {z = z} i j k) =
    rw (component-complete a x i, component-complete b y j, component-complete c z k) refl

-- ---- partial versions

pub partial-sound : (t : List ℕ) (p : Partial) → partial_of t ≡ Some p → PartialVersion t p
partial-sound t p h = by_semver (semver_of t) refl h
  where
    by_semver : (o : Option Parts) → semver_of t ≡ o
        → option_or (option_map (λ v. Full (without_build v)) o) (components (parts t)) ≡ Some p → PartialVersion t p
    by_semver (Some v) e h =
        let same : Full (without_build v) ≡ p = cc in subst (PartialVersion t) same (whole (semver-sound t v e))
    by_semver None e h =
        in_components (λ v g. let wrong = sym e ∙ semver-complete t v g in cc) (components-sound (parts t) p h)

pub partial-complete : (t : List ℕ) (p : Partial) → PartialVersion t p → partial_of t ≡ Some p
partial-complete t p (whole {v = v} g) = rw (semver-complete t v g) refl
partial-complete t p (in_components none g) = by_semver (semver_of t) refl
  where
    by_semver : (o : Option Parts) → semver_of t ≡ o
        → option_or (option_map (λ v. Full (without_build v)) o) (components (parts t)) ≡ Some p
    by_semver (Some v) e = absurd (none v (semver-sound t v e))
    by_semver None e = components-complete (parts t) p g

pub partials-agree : PartialsAgree
partials-agree t p = (partial-sound t p, partial-complete t p)

-- ---- the bytes of a partial version

-- what an operator or a sign begins with, or a space
abbrev pub is_mark : ℕ → Bool
is_mark c = c == 94 || (c == 126 || (c == 62 || (c == 60 || (c == 61 || (c == 118 || c == 32)))))

-- a byte of a kind to which no such byte belongs
plain-by : (P : ℕ → Type 0) (c : ℕ) → P c → ¬ (P 94) → ¬ (P 126) → ¬ (P 62) → ¬ (P 60) → ¬ (P 61) → ¬ (P 118) → ¬ (P 32)
    → is_mark c ≡ false
plain-by P c h n1 n2 n3 n4 n5 n6 n7 =
    rw (differs 94 n1, differs 126 n2, differs 62 n3, differs 60 n4, differs 61 n5, differs 118 n6, differs 32 n7) refl
  where
    differs : (d : ℕ) → ¬ (P d) → (c == d) ≡ false
    differs d never = by_test (eqb_tells c d)
      where
        by_test : Told c d → (c == d) ≡ false
        by_test (inl w) = absurd (never (subst P w.1 h))
        by_test (inr w) = w.0

-- a text without blanks and bars that begins with no mark
pub record IsPlain (t : List ℕ) : Type 0 where
  pub first : ℕ
  pub others : List ℕ
  pub is : t ≡ first ∷ others
  pub unmarked_first : is_mark first ≡ false
  pub all_solid : list_all solid t ≡ true

numeral-plain : (ds t : List ℕ) → IsNumeral 10 ds → list_all solid (ds ++ t) ≡ true → IsPlain (ds ++ t)
numeral-plain [] t h s = absurd (omega (arith, h.0))
numeral-plain (c ∷ cs) t h s = record {
  first = c;
  others = cs ++ t;
  is = refl;
  unmarked_first = plain-by (λ d. digit_value d < 10) c h.1.0 (λ w. omega (arith, w)) (λ w. omega (arith, w))
      (λ w. omega (arith, w)) (λ w. omega (arith, w)) (λ w. omega (arith, w)) (λ w. omega (arith, w))
      (λ w. omega (arith, w));
  all_solid = s;
}

semver-plain : (t : List ℕ) (v : Parts) → IsSemver t v → IsPlain t
semver-plain t v g = subst IsPlain (sym g.is) (numeral-plain (decimal v.0) _ (decimal_is_IsNumeral v.0 g.valid.0).0
    (version-solid v g.valid))

digit_byte-solid : (c : ℕ) → is_ascii_digit c ≡ true → solid c ≡ true
digit_byte-solid c h = solid-by (λ d. is_ascii_digit d ≡ true) c h (λ w. cc) (λ w. cc) (λ w. cc)

digits-solid : (ds : List ℕ) → is_numeric ds ≡ true → list_all solid ds ≡ true
digits-solid [] h = refl
digits-solid (c ∷ cs) h =
    let each = both (is_ascii_digit c) (is_numeric cs) h in rw (digit_byte-solid c each.0) (digits-solid cs each.1)

number-numeric : (t : List ℕ) (n : ℕ) → number t ≡ Some n → is_numeric t ≡ true
number-numeric [] n h = refl
number-numeric (d ∷ ds) n h =
    by_tests (has_leading_zero (d ∷ ds)) (is_numeric (d ∷ ds)) refl (is_number (value (d ∷ ds))) h
  where
    by_tests : (z b : Bool) → is_numeric (d ∷ ds) ≡ b → (m : Bool)
        → cond z None (cond (b && m) (Some (value (d ∷ ds))) None) ≡ Some n → is_numeric (d ∷ ds) ≡ true
    by_tests true b e m h = cc
    by_tests false true e m h = e
    by_tests false false e m h = cc

x-plain : (t : List ℕ) → is_x t ≡ true → IsPlain t
x-plain [] h = cc
x-plain (c ∷ d ∷ ds) h = cc
x-plain (c ∷ []) h = by_tests (eqb_tells c 120) (eqb_tells c 88) (eqb_tells c 42) h
  where
    made : (d : ℕ) → c ≡ d → is_mark d ≡ false → solid d ≡ true → IsPlain (c ∷ [])
    made d e m s = subst (λ (x : ℕ). IsPlain (x ∷ [])) (sym e)
        (record { first = d; others = []; is = refl; unmarked_first = m; all_solid = rw s refl })

    by_tests : Told c 120 → Told c 88 → Told c 42 → is_x (c ∷ []) ≡ true → IsPlain (c ∷ [])
    by_tests (inl w) v u h = made 120 w.1 refl refl
    by_tests (inr w) (inl v) u h = made 88 v.1 refl refl
    by_tests (inr w) (inr v) (inl u) h = made 42 u.1 refl refl
    by_tests (inr w) (inr v) (inr u) h = let wrong = rw (w.0, v.0, u.0) at h in cc

number-plain : (t : List ℕ) (n : ℕ) → number t ≡ Some n → IsPlain t
number-plain [] n h = cc
number-plain (c ∷ cs) n h =
    let digits = number-numeric (c ∷ cs) n h in
    let digit = (both (is_ascii_digit c) (is_numeric cs) digits).0 in
    record {
      first = c;
      others = cs;
      is = refl;
      unmarked_first = plain-by (λ d. is_ascii_digit d ≡ true) c digit (λ w. cc) (λ w. cc) (λ w. cc) (λ w. cc) (λ w. cc)
          (λ w. cc) (λ w. cc);
      all_solid = digits-solid (c ∷ cs) digits;
    }

component-plain : (t : List ℕ) (x : Option ℕ) → Component t x → IsPlain t
component-plain t x (an_x e) = x-plain t e
component-plain t x (a_number {n = n} e) = number-plain t n e

plain-dot : (s t : List ℕ) → IsPlain s → list_all solid t ≡ true → IsPlain (s ++ (46 ∷ t))
plain-dot s t p h = record {
  first = p.first;
  others = p.others ++ (46 ∷ t);
  is = ap (λ x. x ++ (46 ∷ t)) p.is;
  unmarked_first = p.unmarked_first;
  all_solid = two-solid s (46 ∷ t) p.all_solid h;
}

components-plain : (ts : List (List ℕ)) (p : Partial) → Components ts p → IsPlain (join_with_byte 46 ts)
components-plain ts p (one i) = component-plain _ _ i
components-plain ts p (two {a = a} {b = b} i j) =
    plain-dot a b (component-plain _ _ i) (component-plain _ _ j).all_solid
components-plain ts p (three {a = a} {b = b} {c = c} i j k) =
    plain-dot a (b ++ (46 ∷ c)) (component-plain _ _ i) (two-solid b (46 ∷ c) (component-plain _ _ j).all_solid
    (component-plain _ _ k).all_solid)

pub partial-plain : (t : List ℕ) (p : Partial) → PartialVersion t p → IsPlain t
partial-plain t p (whole {v = v} g) = semver-plain t v g
partial-plain t p (in_components none g) =
    subst IsPlain (join_with_byte-slice_split 46 t) (components-plain (parts t) p g)

-- ---- words

neither : (a b : Bool) → (a || b) ≡ false → (a ≡ false) × (b ≡ false)
neither true b h = cc
neither false b h = (refl, h)

un_not : (b : Bool) → not b ≡ true → b ≡ false
un_not true h = cc
un_not false h = refl

solid-goes_on : (c : ℕ) (cs : List ℕ) → solid c ≡ true → ends_part (c ∷ cs) ≡ false
unfolding after
solid-goes_on c cs h =
    let each = neither (c == 32 || c == 9) (c == 124) (un_not (c == 32 || c == 9 || c == 124) h) in
    let blank = neither (c == 32) (c == 9) each.0 in
    rw (blank.0, each.1) refl

pub word-whole : (t rest : List ℕ) → list_all solid t ≡ true → ends_part rest ≡ true → (word (t ++ rest) ≡ t)
    × (after_word (t ++ rest) ≡ rest)
word-whole [] [] h e = (refl, refl)
word-whole [] (c ∷ cs) h e = (rw e refl, rw e refl)
word-whole (c ∷ cs) rest h e =
    let each = both (solid c) (list_all solid cs) h in
    let others = word-whole cs rest each.1 e in
    let goes_on = solid-goes_on c (cs ++ rest) each.0 in
    (rw goes_on (ap (λ x. c ∷ x) others.0), rw goes_on others.1)

pub word-parts : (t : List ℕ) → (t ≡ word t ++ after_word t) × (ends_part (after_word t) ≡ true)
word-parts [] = (refl, refl)
word-parts (c ∷ cs) = by_test (ends_part (c ∷ cs)) refl (word-parts cs)
  where
    by_test : (b : Bool) → ends_part (c ∷ cs) ≡ b → (cs ≡ word cs ++ after_word cs) × (ends_part (after_word cs) ≡ true)
        → (c ∷ cs ≡ cond b [] (c ∷ word cs) ++ cond b (c ∷ cs) (after_word cs))
        × (ends_part (cond b (c ∷ cs) (after_word cs)) ≡ true)
    by_test true e rest = (refl, e)
    by_test false e rest = (ap (λ x. c ∷ x) rest.0, rest.1)

-- ---- operators and signs

pub byte-some : (b : ℕ) (t r : List ℕ) → after (b ∷ []) t ≡ Some r → t ≡ b ∷ r
unfolding after
byte-some b [] r e = cc
byte-some b (c ∷ cs) r e = by_test (eqb_tells c b) e
  where
    by_test : Told c b → cond (c == b) (Some cs) None ≡ Some r → c ∷ cs ≡ b ∷ r
    by_test (inl w) e =
        let found = rw w.0 at e in let same : cs ≡ r = cc in ap (λ (d : ℕ). d ∷ cs) w.1 ∙ ap (λ x. b ∷ x) same
    by_test (inr w) e = let none = rw w.0 at e in cc

abbrev IsMarked : List ℕ → Operator × List ℕ → Type 0
IsMarked t x = (m : List ℕ) × (Mark m x.0 × (t ≡ m ++ x.1))

or_equal-marked : (b : ℕ) (plain equal_too : Operator) (t r : List ℕ) → t ≡ b ∷ r → Mark (b ∷ []) plain
    → Mark (b ∷ 61 ∷ []) equal_too → IsMarked t (or_equal plain equal_too r)
or_equal-marked b plain equal_too t r is one_mark two_marks = by_equal (after (codes "=") r) refl
  where
    by_equal : (o : Option (List ℕ)) → after (codes "=") r ≡ o
        → IsMarked t (behind o (λ rest. (equal_too, rest)) (plain, r))
    by_equal None e = (b ∷ [], (one_mark, is))
    by_equal (Some rest) e = (b ∷ 61 ∷ [], (two_marks, is ∙ ap (λ x. b ∷ x) (byte-some 61 r rest e)))

operator-marked : (t : List ℕ) → IsMarked t (operator_of t)
operator-marked t = by_caret (after (codes "^") t) refl
  where
    by_equal : (o : Option (List ℕ)) → after (codes "=") t ≡ o → IsMarked t (op.Equal, unwrap_or o t)
    by_equal None e = ([], (unmarked, refl))
    by_equal (Some r) e = (codes "=", (equal, byte-some 61 t r e))

    by_below : (o : Option (List ℕ)) → after (codes "<") t ≡ o
        → IsMarked t (behind o (or_equal op.Below op.AtMost) (op.Equal, unwrap_or (after (codes "=") t) t))
    by_below None e = by_equal (after (codes "=") t) refl
    by_below (Some r) e = or_equal-marked 60 op.Below op.AtMost t r (byte-some 60 t r e) below at_most

    by_above : (o : Option (List ℕ)) → after (codes ">") t ≡ o
        → IsMarked t (behind o (or_equal op.Above op.AtLeast)
        (behind (after (codes "<") t) (or_equal op.Below op.AtMost) (op.Equal, unwrap_or (after (codes "=") t) t)))
    by_above None e = by_below (after (codes "<") t) refl
    by_above (Some r) e = or_equal-marked 62 op.Above op.AtLeast t r (byte-some 62 t r e) above at_least

    by_further : (r : List ℕ) → t ≡ 126 ∷ r → (o : Option (List ℕ)) → after (codes ">") r ≡ o
        → IsMarked t (op.Tilde, unwrap_or o r)
    by_further r is None e = (codes "~", (tilde, is))
    by_further r is (Some rest) e = (codes "~>", (tilde_above, is ∙ ap (λ x. 126 ∷ x) (byte-some 62 r rest e)))

    by_tilde : (o : Option (List ℕ)) → after (codes "~") t ≡ o
        → IsMarked t (behind o (λ rest. (op.Tilde, unwrap_or (after (codes ">") rest) rest))
        (behind (after (codes ">") t) (or_equal op.Above op.AtLeast)
        (behind (after (codes "<") t) (or_equal op.Below op.AtMost) (op.Equal, unwrap_or (after (codes "=") t) t))))
    by_tilde None e = by_above (after (codes ">") t) refl
    by_tilde (Some r) e = by_further r (byte-some 126 t r e) (after (codes ">") r) refl

    by_caret : (o : Option (List ℕ)) → after (codes "^") t ≡ o
        → IsMarked t (behind o (λ rest. (op.Caret, rest)) (behind (after (codes "~") t)
        (λ rest. (op.Tilde, unwrap_or (after (codes ">") rest) rest))
        (behind (after (codes ">") t) (or_equal op.Above op.AtLeast)
        (behind (after (codes "<") t) (or_equal op.Below op.AtMost) (op.Equal, unwrap_or (after (codes "=") t) t)))))
    by_caret None e = by_tilde (after (codes "~") t) refl
    by_caret (Some r) e = (codes "^", (caret, byte-some 94 t r e))

-- ---- parts, as they are read

signed-parts : (t : List ℕ) → (s : List ℕ) × ((list_all is_space s ≡ true)
    × ((v : List ℕ) × (((v ≡ []) ⊎ (v ≡ codes "v")) × (t ≡ s ++ (v ++ after_sign t)))))
signed-parts t = by_sign (front-parts is_space t) (after (codes "v") (after_all is_space t)) refl
  where
    by_sign : (s : List ℕ) × ((list_all is_space s ≡ true) × (t ≡ s ++ after_all is_space t)) → (o : Option (List ℕ))
        → after (codes "v") (after_all is_space t) ≡ o → (s : List ℕ)
        × ((list_all is_space s ≡ true) × ((v : List ℕ)
        × (((v ≡ []) ⊎ (v ≡ codes "v")) × (t ≡ s ++ (v ++ unwrap_or o (after_all is_space t))))))
    by_sign (s, h) None e = (s, (h.0, ([], (inl refl, h.1))))
    by_sign (s, h) (Some r) e = (s, (h.0, (codes "v", (inr refl, h.1 ∙ ap (λ x. s ++ x) (byte-some 118 _ r e)))))

abbrev pub read_pair : {A : Type 0} → A × List ℕ → Reading A
read_pair x = Ok x

pub pair_same : {A : Type 0} (x y : A × List ℕ) → read_pair x ≡ read_pair y → (x.0 ≡ y.0) × (x.1 ≡ y.1)
pair_same x y h = let same : x ≡ y = cc in (ap (λ z. z.0) same, ap (λ z. z.1) same)

pub part-sound : (t rest : List ℕ) (cs : List Comparator) → part t ≡ Ok (cs, rest) → IsPart t rest cs
unfolding part
part-sound t rest cs h = by_partial (partial_of (word from)) refl h
  where
    from : List ℕ
    from = after_sign (operator_of t).1

    by_partial : (o : Option Partial) → partial_of (word from) ≡ o
        → part_with t (operator_of t).0 o (after_word from) ≡ Ok (cs, rest) → IsPart t rest cs
    by_partial None e h = cc
    by_partial (Some p) e h =
        let both_same = pair_same (comparators (operator_of t).0 p, after_word from) (cs, rest) h in
        let first = both_same.0 in
        let second = both_same.1 in
        let marked = operator-marked t in
        let sign = signed-parts (operator_of t).1 in
        let within = word-parts from in
        record {
          mark = marked.0;
          operator = (operator_of t).0;
          spaces = sign.0;
          sign = sign.1.1.0;
          word = word from;
          partial = p;
          is = marked.1.1 ∙ ap (λ x. marked.0 ++ x) (sign.1.1.1.1
              ∙ ap (λ x. sign.0 ++ (sign.1.1.0 ++ x)) (within.0 ∙ ap (λ x. word from ++ x) second));
          marked = marked.1.0;
          are_spaces = sign.1.0;
          signed = sign.1.1.1.0;
          read = partial-sound (word from) p e;
          ends = subst (λ (x : List ℕ). ends_part x ≡ true) second within.1;
          means = sym first;
        }

-- ---- parts, as they are written

-- a text that begins with none of the bytes of an operator
abbrev is_operator_byte : ℕ → Bool
is_operator_byte c = c == 94 || (c == 126 || (c == 62 || (c == 60 || c == 61)))

operator-parts : (c : ℕ) → is_operator_byte c ≡ false → ((c == 94) ≡ false)
    × (((c == 126) ≡ false) × (((c == 62) ≡ false) × (((c == 60) ≡ false) × ((c == 61) ≡ false))))
operator-parts c h =
    let a = neither (c == 94) (c == 126 || (c == 62 || (c == 60 || c == 61))) h in
    let b = neither (c == 126) (c == 62 || (c == 60 || c == 61)) a.1 in
    let d = neither (c == 62) (c == 60 || c == 61) b.1 in
    let e = neither (c == 60) (c == 61) d.1 in
    (a.0, (b.0, (d.0, (e.0, e.1))))

mark-read : (m : List ℕ) (o : Operator) (c : ℕ) (cs : List ℕ) → is_operator_byte c ≡ false → Mark m o
    → operator_of (m ++ (c ∷ cs)) ≡ (o, c ∷ cs)
unfolding after
mark-read m o c cs h caret = refl
mark-read m o c cs h tilde = rw (operator-parts c h).1.1.0 refl
mark-read m o c cs h tilde_above = refl
mark-read m o c cs h at_least = refl
mark-read m o c cs h above = rw (operator-parts c h).1.1.1.1 refl
mark-read m o c cs h at_most = refl
mark-read m o c cs h below = rw (operator-parts c h).1.1.1.1 refl
mark-read m o c cs h equal = refl
mark-read m o c cs h unmarked =
    let each = operator-parts c h in rw (each.0, each.1.0, each.1.1.0, each.1.1.1.0, each.1.1.1.1) refl

pub mark-parts : (c : ℕ) → is_mark c ≡ false → (is_operator_byte c ≡ false)
    × (((c == 118) ≡ false) × ((c == 32) ≡ false))
mark-parts c h =
    let a = neither (c == 94) (c == 126 || (c == 62 || (c == 60 || (c == 61 || (c == 118 || c == 32))))) h in
    let b = neither (c == 126) (c == 62 || (c == 60 || (c == 61 || (c == 118 || c == 32)))) a.1 in
    let d = neither (c == 62) (c == 60 || (c == 61 || (c == 118 || c == 32))) b.1 in
    let e = neither (c == 60) (c == 61 || (c == 118 || c == 32)) d.1 in
    let f = neither (c == 61) (c == 118 || c == 32) e.1 in
    let g = neither (c == 118) (c == 32) f.1 in
    (rw (a.0, b.0, d.0, e.0) f.0, (g.0, g.1))

-- what follows an operator
record IsLead (t : List ℕ) : Type 0 where
  first : ℕ
  others : List ℕ
  is : t ≡ first ∷ others
  no_operator : is_operator_byte first ≡ false

lead : (s v w rest : List ℕ) → list_all is_space s ≡ true → ((v ≡ []) ⊎ (v ≡ codes "v")) → IsPlain w
    → IsLead (s ++ (v ++ (w ++ rest)))
lead [] v w rest h (inl e) p = rw e (record {
  first = p.first;
  others = p.others ++ rest;
  is = ap (λ x. x ++ rest) p.is;
  no_operator = (mark-parts p.first p.unmarked_first).0;
})
lead [] v w rest h (inr e) p = rw e (record { first = 118; others = w ++ rest; is = refl; no_operator = refl })
lead (c ∷ cs) v w rest h sign p = record {
  first = c;
  others = cs ++ (v ++ (w ++ rest));
  is = refl;
  no_operator =
      by_test (eqb_tells c 32) (both (c == 32) (list_all is_space cs) h).0;
}
  where
    by_test : Told c 32 → (c == 32) ≡ true → is_operator_byte c ≡ false
    by_test (inl w) e = rw w.1 refl
    by_test (inr w) e = let wrong = sym w.0 ∙ e in cc

sign-none : (c : ℕ) (cs : List ℕ) → (c == 118) ≡ false → (c == 32) ≡ false → after_sign (c ∷ cs) ≡ c ∷ cs
unfolding after
sign-none c cs v space = rw (space, v) refl

sign-one : (t : List ℕ) → after_sign (codes "v" ++ t) ≡ t
unfolding after
sign-one t = refl

after_sign-behind : (s t : List ℕ) → list_all is_space s ≡ true → after_sign (s ++ t) ≡ after_sign t
after_sign-behind s t h = ap (λ x. unwrap_or (after (codes "v") x) x) (after_all-behind is_space s t h)

sign-read : (s v w rest : List ℕ) → list_all is_space s ≡ true → ((v ≡ []) ⊎ (v ≡ codes "v")) → IsPlain w
    → after_sign (s ++ (v ++ (w ++ rest))) ≡ w ++ rest
sign-read s v w rest h sign p = after_sign-behind s (v ++ (w ++ rest)) h ∙ by_sign sign
  where
    plain : w ++ rest ≡ p.first ∷ (p.others ++ rest)
    plain = ap (λ x. x ++ rest) p.is

    by_sign : (v ≡ []) ⊎ (v ≡ codes "v") → after_sign (v ++ (w ++ rest)) ≡ w ++ rest
    by_sign (inl e) =
        let each = mark-parts p.first p.unmarked_first in
        ap (λ x. after_sign (x ++ (w ++ rest))) e
        ∙ (ap after_sign plain ∙ (sign-none p.first (p.others ++ rest) each.1.0 each.1.1 ∙ sym plain))
    by_sign (inr e) = ap (λ x. after_sign (x ++ (w ++ rest))) e ∙ sign-one (w ++ rest)

abbrev with_operator : Operator → List ℕ → Operator × List ℕ
with_operator o x = (o, x)

abbrev read_as : List Comparator → List ℕ → Reading (List Comparator)
read_as x rest = Ok (x, rest)

abbrev by_from : List ℕ → Operator → List ℕ → Reading (List Comparator)
by_from t o from = part_with t o (partial_of (word from)) (after_word from)

pub part-complete : (t rest : List ℕ) (cs : List Comparator) → IsPart t rest cs → part t ≡ Ok (cs, rest)
unfolding part
part-complete t rest cs g =
    let plain = partial-plain g.word g.partial g.read in
    let behind_mark = g.spaces ++ (g.sign ++ (g.word ++ rest)) in
    let begins = lead g.spaces g.sign g.word rest g.are_spaces g.signed plain in
    let operator : operator_of t ≡ (g.operator, behind_mark) = ap operator_of (g.is ∙ ap (λ x. g.mark ++ x) begins.is)
    ∙ (mark-read g.mark g.operator begins.first begins.others begins.no_operator g.marked
    ∙ ap (λ x. with_operator g.operator x) (sym begins.is)) in
    let from = sign-read g.spaces g.sign g.word rest g.are_spaces g.signed plain in
    let within = word-whole g.word rest plain.all_solid g.ends in
    ap (λ x. by_from t x.0 (after_sign x.1)) operator
    ∙ (ap (by_from t g.operator) from
    ∙ rw (within.0, within.1, partial-complete g.word g.partial g.read)
    (ap (λ (x : List Comparator). read_as x rest) (sym g.means)))

pub parts-agree : PartsAgree
parts-agree t rest cs = (part-sound t rest cs, part-complete t rest cs)
