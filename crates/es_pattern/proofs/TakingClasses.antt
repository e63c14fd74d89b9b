-- Within hexadecimal digits and classes, a text that completes what was read is taken: its first character is, and the
-- rest completes the new state.
use Rattle.std.proofs.Common.{
  ◌≡◌,
  ℕ,
  zero,
  suc,
  ◌+◌,
  ◌-◌,
  ◌*◌,
  ◌<◌,
  ◌≤◌,
  Bool,
  true,
  false,
  cond,
  List,
  [],
  ◌∷◌,
  ◌++◌,
  inl,
  inr,
  Option,
  Some,
  None,
  refl,
  sym,
  subst,
  ◌∙◌,
  arith,
}
use Rattle.std.specs.Prelude.{◌==◌, ◌||◌, nat_le, nat_lt}
use Rattle.std.proofs.lemmas.Option.{same_Some}
use Rattle.std.proofs.lemmas.Bool.{false≢true, eqb-true, eq-eqb, ne_eqb, le-leb, false_from_ne_true, or_parts}
use Rattle.std.proofs.lemmas.Bool.Decides.{nat_tests}
use Rattle.es_pattern.specs.Tree.{Tree, CharRange}
use Rattle.es_pattern.specs.Escapes.{
  range,
  is_ascii_digit,
  is_ascii_punctuation,
  set_of,
  escaped,
  hex_value,
  is_surrogate,
}
use Rattle.es_pattern.specs.Grammar.{char, BeginsDigit, CharEscape, ClassChar, Before, FirstChar, RangeEnd, Items, Hex}
use Rattle.es_pattern.specs.Grammar.{
  named,
  zero_char,
  two_digits,
  four_digits,
  itself,
  class_escape,
  backspace,
  bracket,
  character,
  range_or_set,
  other_char,
  first_dash,
  start_char,
  start_dash,
  end_char,
  end_dash,
  no_item,
  last_dash,
  one_char,
  one_set,
  from_to,
}
use Rattle.es_pattern.specs.declared.mode.Mode.TheVariants.{
  ClassOpen,
  ClassFirst,
  ClassNext,
  ClassNextDash,
  ClassNextDashes,
}
use Rattle.es_pattern.specs.declared.mode.Mode.TheVariants as modes
use Rattle.es_pattern.specs.Reading.{
  Reading,
  at,
  with_atom,
  greatest_from,
  hex_to,
  hex_by,
  ranged,
  class_end,
  item,
  next_item,
  after_char,
  class_char,
  range_end,
  after_dash,
  next_dash,
  class_char_if,
  can_end,
  class_zero,
  with_ranges,
  class_set,
  class_hex_to,
  class_hex_by,
  step_in,
}
use Rattle.es_pattern.proofs.Sane.{IsPartial}
use Rattle.es_pattern.proofs.Sound.{
  After,
  after_one,
  after_range,
  EscapeItem,
  escape_set,
  escape_char,
  Ended,
  AfterAtom,
  AfterClass,
  InClass,
  AfterChar,
  InRange,
  InEscape,
  CompletesIn,
  Taken,
  AfterEnd,
}
use Rattle.es_pattern.proofs.HexDigits.{
  hex_digit,
  two_digits_more,
  four_digits_more,
  greatest_last,
  greatest_with_one,
  greatest_with_two,
  greatest_with_three,
  two_small,
}
use Rattle.es_pattern.proofs.TakingTerms.{no_escape}

-- a test that holds, and one that doesn't
taken_then : (b : Bool) (x y : Option Reading) (w : List ℕ) (t : Tree) → b ≡ true → Taken x w t → Taken (cond b x y) w t
taken_then true x y w t e h = h
taken_then false x y w t e h = absurd (false≢true e)

taken_else : (b : Bool) (x y : Option Reading) (w : List ℕ) (t : Tree) → b ≡ false → Taken y w t
    → Taken (cond b x y) w t
taken_else true x y w t e h = absurd (false≢true (sym e))
taken_else false x y w t e h = h

-- the test of a character that stands for itself in a class
no_syntax : (c : ℕ) → (c == 93 || c == 92 || c == 45) ≡ false → (c == 93 ≡ false) × (c == 92 ≡ false)
    × (c == 45 ≡ false)
no_syntax c h =
    let last = or_parts (c == 93 || c == 92) (c == 45) h in
    let first = or_parts (c == 93) (c == 92) last.0 in
    (first.0, first.1, last.1)

-- a character of a class that begins with this one: an escape, or this one itself
class_char_cases : (d k : ℕ) (text w mid : List ℕ) (P : Type 0) → ClassChar d text mid → text ≡ k ∷ w
    → (k ≡ 92 → ClassChar d (92 ∷ w) mid → P)
    → (k == 93 ≡ false → k == 92 ≡ false → k == 45 ≡ false → d ≡ k → mid ≡ w → P) → P
class_char_cases d k text w mid P (itself tests) e at_escape at_other =
    let same : d ≡ k = cc in
    let apart = no_syntax k (subst (λ (x : ℕ). (x == 93 || x == 92 || x == 45) ≡ false) same tests) in
    at_other apart.0 apart.1 apart.2 same (cc)
class_char_cases d k text w mid P (class_escape {text = v} r) e at_escape at_other =
    let tails : v ≡ w = cc in at_escape (cc) (subst (λ (x : List ℕ). ClassChar d (92 ∷ x) mid) tails (class_escape r))
class_char_cases d k text w mid P backspace e at_escape at_other =
    let tails : 98 ∷ mid ≡ w = cc in at_escape (cc) (subst (λ (x : List ℕ). ClassChar 8 (92 ∷ x) mid) tails backspace)

-- a character of a class, or the `-` with which one begins, by its first character
first_char_cases : (before : Before) (d k : ℕ) (text w mid : List ℕ) (P : Type 0) → FirstChar before d text mid
    → text ≡ k ∷ w
    → (k ≡ 92 → ClassChar d (92 ∷ w) mid → P)
    → (k == 93 ≡ false → k == 92 ≡ false → (k == 45 ≡ true → before ≡ bracket) → d ≡ k → mid ≡ w → P) → P
first_char_cases before d k text w mid P (other_char r) e at_escape at_other =
    class_char_cases d k text w mid P r e at_escape (λ n93 n92 n45 same rest. at_other n93 n92
    (λ y. absurd (false≢true (sym n45 ∙ y))) same rest)
first_char_cases before d k text w mid P first_dash e at_escape at_other =
    let same : k ≡ 45 = cc in at_other (ne_eqb k 93 (λ g. omega (arith, same, g)))
    (ne_eqb k 92 (λ g. omega (arith, same, g))) (λ y. refl) (sym same) (cc)

-- a `-` before the end of a class
abbrev LastDash : List CharRange → List ℕ → List ℕ → List CharRange → Type 0
LastDash ranges w rest all = (w ≡ 93 ∷ rest) × (all ≡ ranges ++ range 45 45 ∷ [])

-- a `-` with which a range begins
abbrev DashRange : List CharRange → List ℕ → List ℕ → List CharRange → Type 0
DashRange ranges w rest all = (v : List ℕ) × (d : ℕ) × (after : List ℕ) × (w ≡ 45 ∷ v) × RangeEnd d v after × (45 ≤ d)
    × Items range_or_set (ranges ++ range 45 d ∷ []) after rest all

-- items that begin with this character
item_cases : (before : Before) (k : ℕ) (ranges all : List CharRange) (text w rest : List ℕ) (P : Type 0)
    → Items before ranges text rest all → text ≡ k ∷ w
    → (k ≡ 93 → rest ≡ w → all ≡ ranges → P) → (k ≡ 92 → EscapeItem ranges w rest all → P)
    → (k ≡ 45 → LastDash ranges w rest all → P)
    → (k ≡ 45 → before ≡ range_or_set → DashRange ranges w rest all → P)
    → (k == 93 ≡ false → k == 92 ≡ false → (k == 45 ≡ true → before ≡ bracket) → After k ranges w rest all → P) → P
item_cases before k ranges all text w rest P no_item e at_end at_escape at_dash at_range at_char = at_end (cc) (cc) refl
item_cases before k ranges all text w rest P last_dash e at_end at_escape at_dash at_range at_char =
    at_dash (cc) ((cc), refl)
item_cases before k ranges all text w rest P (one_char {c = d} {mid = mid} r i) e at_end at_escape at_dash at_range
    at_char =
    first_char_cases before d k text w mid P r e (λ y read. at_escape y (escape_char read (after_one i)))
    (λ n93 n92 dash same tails. at_char n93 n92 dash (subst (λ (x : ℕ). After x ranges w rest all) same
    (subst (λ (v : List ℕ). After d ranges v rest all) tails (after_one i))))
item_cases before k ranges all text w rest P (one_set {more = more} {letter = letter} {text = v} s i) e at_end at_escape
    at_dash at_range at_char =
    let tails : letter ∷ v ≡ w = cc in
    at_escape (cc) (subst (λ (x : List ℕ). EscapeItem ranges x rest all) tails (escape_set s i))
item_cases before k ranges all text w rest P (from_to {c = c} {d = d} {mid = mid} (start_char r) last le i) e at_end
    at_escape at_dash at_range at_char =
    first_char_cases before c k text w (45 ∷ mid) P r e (λ y read. at_escape y
    (escape_char read (after_range last le i)))
    (λ n93 n92 dash same tails. at_char n93 n92 dash (subst (λ (x : ℕ). After x ranges w rest all) same
    (subst (λ (v : List ℕ). After c ranges v rest all) tails (after_range last le i))))
item_cases before k ranges all text w rest P (from_to {c = c} {d = d} {mid = mid} {after = after} start_dash last le i)
    e at_end at_escape at_dash at_range at_char =
    at_range (cc) refl (mid, d, after, (cc), last, le, i)

-- after a character of a class, another character than `-` begins the next item
after_other : (first k : ℕ) (ranges all : List CharRange) (text w rest : List ℕ) → After first ranges text rest all
    → text ≡ k ∷ w → k == 45 ≡ false → Items character (ranges ++ range first first ∷ []) text rest all
after_other first k ranges all text w rest (after_one i) e n45 = i
after_other first k ranges all text w rest (after_range last le i) e n45 =
    let same : k ≡ 45 = cc in absurd (false≢true (sym n45 ∙ eq-eqb k 45 same))

-- after a character of a class and `-`
after_dash_cases : (first : ℕ) (ranges all : List CharRange) (text w rest : List ℕ) (P : Type 0)
    → After first ranges text rest all → text ≡ 45 ∷ w
    → (LastDash (ranges ++ range first first ∷ []) w rest all → P)
    → ((d : ℕ) (after : List ℕ) → RangeEnd d w after → first ≤ d
    → Items range_or_set (ranges ++ range first d ∷ []) after rest all → P) → P
after_dash_cases first ranges all text w rest P (after_one i) e at_last at_range =
    item_cases character 45 (ranges ++ range first first ∷ []) all text w rest P i e (λ y. absurd (omega (arith, y)))
    (λ y. absurd (omega (arith, y))) (λ y l. at_last l) (λ y f l. absurd (cc))
    (λ n93 n92 dash a. let f : character ≡ bracket = dash refl in absurd (cc))
after_dash_cases first ranges all text w rest P (after_range {d = d} {mid = mid} {after = after} last le i) e at_last
    at_range =
    let tails : mid ≡ w = cc in at_range d after (subst (λ (v : List ℕ). RangeEnd d v after) tails last) le i

-- the first character of what is left of a class
taking_item : (before : Before) (c : ℕ) (r : Reading) (w : List ℕ) (t : Tree) → (c ≡ 45 → before ≡ bracket)
    → InClass before r (c ∷ w) t → Taken (item c r) w t
taking_item before c r w t dash i =
    item_cases before c r.ranges i.0 (c ∷ w) w i.1 (Taken (item c r) w t) i.2 refl
    (λ y rest all. taken_then (c == 93) _ _ w t (eq-eqb c 93 y) (
      class_end r,
      refl,
      subst (λ (v : List ℕ). AfterClass r t r.ranges v) rest
          (subst (λ (a : List CharRange). AfterClass r t a i.1) all i.3),
    ))
    (λ y h. in_escape y (i.0, i.1, h, i.3))
    (λ y l. in_char (ne_eqb c 93 (λ g. omega (arith, y, g))) (ne_eqb c 92 (λ g. omega (arith, y, g)))
    (i.0, i.1, first_dash_ends y l, i.3))
    (λ y f l. let front : before ≡ bracket = dash y in let other : range_or_set ≡ bracket = sym f ∙ front in
    absurd (cc))
    (λ n93 n92 d h. in_char n93 n92 (i.0, i.1, h, i.3))
  where
    in_escape : c ≡ 92 → InEscape None r w t → Taken (item c r) w t
    in_escape y h = taken_else (c == 93) _ _ w t (ne_eqb c 93 (λ g. omega (arith, y, g)))
        (taken_then (c == 92) _ _ w t (eq-eqb c 92 y) (at (modes.ClassEscape None) r, refl, h))

    in_char : c == 93 ≡ false → c == 92 ≡ false → AfterChar c r w t → Taken (item c r) w t
    in_char n93 n92 h =
        taken_else (c == 93) _ _ w t n93 (taken_else (c == 92) _ _ w t n92 (at (modes.ClassChar c) r, refl, h))

    first_dash_ends : c ≡ 45 → LastDash r.ranges w i.1 i.0 → After c r.ranges w i.1 i.0
    first_dash_ends y l =
        subst (λ (k : ℕ). After k r.ranges w i.1 i.0) (sym y)
        (subst (λ (v : List ℕ). After 45 r.ranges v i.1 i.0) (sym l.0)
        (subst (λ (a : List CharRange). After 45 r.ranges (93 ∷ i.1) i.1 a) (sym l.1) (after_one no_item)))

-- what completes a class after a range or a set is taken
taking_next_item : (c : ℕ) (r : Reading) (w : List ℕ) (t : Tree) → InClass range_or_set r (c ∷ w) t
    → Taken (next_item c r) w t
taking_next_item c r w t i = by_test (c == 45) refl
  where
    by_test : (b : Bool) → c == 45 ≡ b → Taken (next_item c r) w t
    by_test true y = taken_then (c == 45) _ _ w t y (
      at ClassNextDash r,
      refl,
      subst (λ (k : ℕ). InClass range_or_set r (k ∷ w) t) (eqb-true c 45 y) i,
    )
    by_test false n = taken_else (c == 45) _ _ w t n (taking_item range_or_set c r w t
        (λ y. absurd (false≢true (sym n ∙ eq-eqb c 45 y))) i)

-- and a `-`
taking_next_dash : (c : ℕ) (r : Reading) (w : List ℕ) (t : Tree) → InClass range_or_set r (45 ∷ c ∷ w) t
    → Taken (next_dash c r) w t
taking_next_dash c r w t i =
    item_cases range_or_set 45 r.ranges i.0 (45 ∷ c ∷ w) (c ∷ w) i.1 (Taken (next_dash c r) w t) i.2 refl
    (λ y. absurd (omega (arith, y))) (λ y. absurd (omega (arith, y))) (λ y l. ends_so l) (λ y f l. range_so l)
    (λ n93 n92 dash a. let f : range_or_set ≡ bracket = dash refl in absurd (cc))
  where
    ends_so : LastDash r.ranges (c ∷ w) i.1 i.0 → Taken (next_dash c r) w t
    ends_so l =
        let tails : i.1 ≡ w = cc (l.0) in
        taken_then (c == 93) _ _ w t (eq-eqb c 93 (cc (l.0))) (
          class_end (ranged 45 45 r),
          refl,
          subst (λ (v : List ℕ). AfterClass r t (r.ranges ++ range 45 45 ∷ []) v) tails
              (subst (λ (a : List CharRange). AfterClass r t a i.1) l.1 i.3),
        )

    range_so : DashRange r.ranges (c ∷ w) i.1 i.0 → Taken (next_dash c r) w t
    range_so l =
        let y : c ≡ 45 = cc (l.3) in
        let tails : l.0 ≡ w = cc (l.3) in
        taken_else (c == 93) _ _ w t (ne_eqb c 93 (λ g. omega (arith, y, g)))
        (taken_then (c == 45) _ _ w t (eq-eqb c 45 y) (
          at ClassNextDashes r,
          refl,
          (
            i.0,
            i.1,
            l.1,
            l.2,
            subst (λ (v : List ℕ). RangeEnd l.1 v l.2) tails l.4,
            l.5,
            l.6,
            i.3,
          ),
        ))

-- after a character of a class
taking_after_char : (first c : ℕ) (r : Reading) (w : List ℕ) (t : Tree) → AfterChar first r (c ∷ w) t
    → Taken (after_char first c r) w t
taking_after_char first c r w t i = by_test (c == 45) refl
  where
    by_test : (b : Bool) → c == 45 ≡ b → Taken (after_char first c r) w t
    by_test true y = taken_then (c == 45) _ _ w t y (
      at (modes.ClassDash first) r,
      refl,
      subst (λ (k : ℕ). AfterChar first r (k ∷ w) t) (eqb-true c 45 y) i,
    )
    by_test false n =
        taken_else (c == 45) _ _ w t n
        (taking_item character c (ranged first first r) w t (λ y. absurd (false≢true (sym n ∙ eq-eqb c 45 y)))
        (i.0, i.1, after_other first c r.ranges i.0 (c ∷ w) w i.1 i.2 refl n, i.3))

-- a character that a letter stands for in an escape is at most `~`
escaped_small : (c d : ℕ) → escaped c ≡ Some d → d ≤ 126
escaped_small c = at_most (c == 116) 9 _ (λ y. omega arith) (at_most (c == 110) 10 _ (λ y. omega arith)
    (at_most (c == 118) 11 _ (λ y. omega arith) (at_most (c == 102) 12 _ (λ y. omega arith)
    (at_most (c == 114) 13 _ (λ y. omega arith)
    (at_most (is_ascii_punctuation c) c None (punctuation_small c) (λ d e. cc))))))
  where
    punctuation_small : (c : ℕ) → is_ascii_punctuation c ≡ true → c ≤ 126
    punctuation_small c h = grind (arith, nat_tests)

    at_most : (b : Bool) (v : ℕ) (o : Option ℕ) → (b ≡ true → v ≤ 126) → ((d : ℕ) → o ≡ Some d → d ≤ 126) → (d : ℕ)
        → cond b (Some v) o ≡ Some d → d ≤ 126
    at_most true v o small rest d e = let same = same_Some v d e in let le = small refl in omega arith
    at_most false v o small rest d e = rest d e

-- so is each escape's, within four digits
escape_small : (d : ℕ) (text mid : List ℕ) → CharEscape d text mid → d ≤ 0xffff
escape_small d text mid (named {letter = letter} here) = let small = escaped_small letter d here in omega arith
escape_small d text mid (zero_char no_digit) = omega arith
escape_small d text mid (two_digits {text = v} h) = omega (arith, two_digits_more 0 v mid d h)
escape_small d text mid (four_digits {text = v} h none) = omega (arith, four_digits_more 0 v mid d h)

-- an escape within a class is for a character of the basic plane
class_escape_small : (d : ℕ) (text w mid : List ℕ) → ClassChar d text mid → text ≡ 92 ∷ w → d ≤ 0xffff
class_escape_small d text w mid (itself tests) e =
    let same : d ≡ 92 =
    cc in absurd (false≢true (sym (subst (λ (x : ℕ). (x == 93 || x == 92 || x == 45) ≡ false) same tests)))
class_escape_small d text w mid (class_escape {text = v} r) e = escape_small d v mid r
class_escape_small d text w mid backspace e = omega arith

-- a character that ends a range, or begins an item
taking_class_character : (first : Option ℕ) (d : ℕ) (r : Reading) (w : List ℕ) (t : Tree) → AfterEnd first d r w t
    → Taken (class_char first d r) w t
taking_class_character None d r w t i = (at (modes.ClassChar d) r, refl, (i.0, i.1, i.2, i.3))
taking_class_character (Some first) d r w t i =
    taken_then (nat_le first d) _ _ w t (le-leb first d i.2.0)
    (at ClassNext (ranged first d r), refl, (i.0, i.1, i.2.1, i.3))

-- a character that ends a range: a `-` too
range_end_cases : (d k : ℕ) (text w after : List ℕ) (P : Type 0) → RangeEnd d text after → text ≡ k ∷ w
    → (k ≡ 92 → ClassChar d (92 ∷ w) after → P)
    → (k == 93 ≡ false → k == 92 ≡ false → k == 45 ≡ false → d ≡ k → after ≡ w → P)
    → (k ≡ 45 → d ≡ 45 → after ≡ w → P) → P
range_end_cases d k text w after P (end_char read) e at_escape at_other at_dash =
    class_char_cases d k text w after P read e at_escape at_other
range_end_cases d k text w after P end_dash e at_escape at_other at_dash = at_dash (cc) refl (cc)

-- `]` ends none
no_range_end : (d c : ℕ) (w after : List ℕ) → RangeEnd d (c ∷ w) after → c == 93 ≡ false
no_range_end d c w after last =
    range_end_cases d c (c ∷ w) w after (c == 93 ≡ false) last refl (λ y read. ne_eqb c 93 (λ g. omega (arith, y, g)))
    (λ n93 n92 n45 same tails. n93) (λ y same tails. ne_eqb c 93 (λ g. omega (arith, y, g)))

taking_range_end : (first c : ℕ) (r : Reading) (w : List ℕ) (t : Tree) → InRange first r (c ∷ w) t
    → Taken (range_end first c r) w t
taking_range_end first c r w t (all, mid, d, after, last, le, items, closed) =
    range_end_cases d c (c ∷ w) w after (Taken (range_end first c r) w t) last refl (λ y read. escape_so y read)
    (λ n93 n92 n45 same tails. taken_else (c == 92) _ _ w t n92 (taken_else (c == 45) _ _ w t n45
    (taking_class_character (Some first) c r w t
    (subst (λ (v : List ℕ). AfterEnd (Some first) c r v t) tails
    (subst (λ (x : ℕ). AfterEnd (Some first) x r after t) same (all, mid, (le, items), closed))))))
    (λ y same tails. dash_so same y tails)
  where
    escape_so : c ≡ 92 → ClassChar d (92 ∷ w) after → Taken (range_end first c r) w t
    escape_so y read =
        let small = class_escape_small d (92 ∷ w) w after read refl in
        taken_then (c == 92) _ _ w t (eq-eqb c 92 y)
        (taken_then (nat_le first 0xffff) _ _ w t (le-leb first 0xffff (omega (arith, small, le)))
        (at (modes.ClassEscape (Some first)) r, refl, (all, mid, d, after, read, le, items, closed)))

    dash_so : d ≡ 45 → c ≡ 45 → after ≡ w → Taken (range_end first c r) w t
    dash_so same y tails =
        let le45 : first ≤ 45 = subst (λ (k : ℕ). first ≤ k) same le in
        let more = subst (λ (k : ℕ). Items range_or_set (r.ranges ++ range first k ∷ []) after mid all) same items in
        taken_else (c == 92) _ _ w t (ne_eqb c 92 (λ g. omega (arith, y, g)))
        (taken_then (c == 45) _ _ w t (eq-eqb c 45 y)
        (taken_then (nat_le first 45) _ _ w t (le-leb first 45 le45) (
          at ClassNext (ranged first 45 r),
          refl,
          (
            all,
            mid,
            subst (λ (v : List ℕ). Items range_or_set (r.ranges ++ range first 45 ∷ []) v mid all) tails
                more,
            closed,
          ),
        )))

-- after a character of a class and `-`
taking_after_dash : (first c : ℕ) (r : Reading) (w : List ℕ) (t : Tree) → AfterChar first r (45 ∷ c ∷ w) t
    → Taken (after_dash first c r) w t
taking_after_dash first c r w t i =
    after_dash_cases first r.ranges i.0 (45 ∷ c ∷ w) (c ∷ w) i.1 (Taken (after_dash first c r) w t) i.2 refl ends_so
    (λ d after last le items. taken_else (c == 93) _ _ w t (no_range_end d c w after last)
    (taking_range_end first c r w t (i.0, i.1, d, after, last, le, items, i.3)))
  where
    ends_so : LastDash (r.ranges ++ range first first ∷ []) (c ∷ w) i.1 i.0 → Taken (after_dash first c r) w t
    ends_so l =
        let tails : i.1 ≡ w = cc (l.0) in
        taken_then (c == 93) _ _ w t (eq-eqb c 93 (cc (l.0))) (
          class_end (ranged 45 45 (ranged first first r)),
          refl,
          subst (λ (v : List ℕ). AfterClass r t (r.ranges ++ range first first ∷ [] ++ range 45 45 ∷ []) v) tails
              (subst (λ (a : List CharRange). AfterClass r t a i.1) l.1 i.3),
        )

-- where the range, if one has begun, ends at a character, it can end at a greater one
ended_can_end : (first : Option ℕ) (d g : ℕ) (ranges all : List CharRange) (after mid : List ℕ)
    → Ended first d ranges after mid all → d ≤ g → can_end first g ≡ true
ended_can_end None d g ranges all after mid h le = refl
ended_can_end (Some first) d g ranges all after mid h le = let low = h.0 in le-leb first g (omega (arith, low, le))

-- a letter that stands for a character is no letter of a set
no_set : (c d : ℕ) → escaped c ≡ Some d → set_of c ≡ None
no_set c d h = rw (
  no_escape c 100 d h refl,
  no_escape c 68 d h refl,
  no_escape c 119 d h refl,
  no_escape c 87 d h refl,
  no_escape c 115 d h refl,
  no_escape c 83 d h refl,
) refl

module _ (first : Option ℕ) (r : Reading) (w : List ℕ) (t : Tree) where
  abbrev EscapeTaken : ℕ → Type 0
  EscapeTaken c = Taken (class_set (set_of c) first c r) w t

  -- a letter that stands for a character, and hexadecimal digits
  taking_named : (c d : ℕ) → escaped c ≡ Some d → AfterEnd first d r w t → EscapeTaken c
  taking_named c d here i =
      subst (λ (o : Option (List CharRange)). Taken (class_set o first c r) w t) (sym (no_set c d here))
      (taken_else (c == 98) _ _ w t (no_escape c 98 d here refl)
      (taken_else (c == 120) _ _ w t (no_escape c 120 d here refl)
      (taken_else (c == 117) _ _ w t (no_escape c 117 d here refl)
      (taken_else (c == 48) _ _ w t (no_escape c 48 d here refl)
      (subst (λ (o : Option ℕ). Taken (class_char_if first o r) w t) (sym here)
      (taking_class_character first d r w t i))))))

  taking_two : (d : ℕ) (after : List ℕ) → Hex 2 0 w after d → AfterEnd first d r after t → EscapeTaken 120
  taking_two d after h i =
      let small = two_digits_more 0 w after d h in
      taken_then (can_end first 0xff) _ _ w t (ended_can_end first d 0xff r.ranges i.0 after i.1 i.2
      (omega (arith, small)))
      (at (modes.ClassHex first 0 2) r, refl, (i.0, i.1, d, after, h, two_small w after d h, i.2, i.3))

  taking_four : (d : ℕ) (after : List ℕ) → Hex 4 0 w after d → is_surrogate d ≡ false → AfterEnd first d r after t
      → EscapeTaken 117
  taking_four d after h none i =
      let small = four_digits_more 0 w after d h in
      taken_then (can_end first 0xffff) _ _ w t (ended_can_end first d 0xffff r.ranges i.0 after i.1 i.2
      (omega (arith, small)))
      (at (modes.ClassHex first 0 4) r, refl, (i.0, i.1, d, after, h, none, i.2, i.3))

-- `\0`
taking_zero : (first : Option ℕ) (r : Reading) (w : List ℕ) (t : Tree) → (BeginsDigit w → ⊥) → AfterEnd first 0 r w t
    → Taken (class_zero first r) w t
taking_zero None r w t no_digit i = (at (modes.ClassZero false) r, refl, (no_digit, (i.0, i.1, i.2, i.3)))
taking_zero (Some first) r w t no_digit i =
    let le = i.2.0 in
    let zero_is : first ≡ 0 = omega (arith, le) in
    taken_then (first == 0) _ _ w t (eq-eqb first 0 zero_is) (
      at (modes.ClassZero true) (ranged 0 0 r),
      refl,
      (
        no_digit,
        (
          i.0,
          i.1,
          subst (λ (k : ℕ). Items range_or_set (r.ranges ++ range k 0 ∷ []) w i.1 i.0) zero_is
              i.2.1,
          i.3,
        ),
      ),
    )

module _ (first : Option ℕ) (r : Reading) (c : ℕ) (w : List ℕ) (t : Tree) where
  -- an escape that begins with this letter
  taking_char_escape : (d : ℕ) (text after : List ℕ) → CharEscape d text after → text ≡ c ∷ w
      → AfterEnd first d r after t → EscapeTaken first r w t c
  taking_char_escape d text after (named {letter = letter} here) e i =
      let same : letter ≡ c = cc in
      let tails : after ≡ w = cc in
      subst (λ (x : ℕ). EscapeTaken first r w t x) same (taking_named first r w t letter d here
      (subst (λ (v : List ℕ). AfterEnd first d r v t) tails i))
  taking_char_escape d text after (zero_char no_digit) e i =
      let same : 48 ≡ c = cc in
      let tails : after ≡ w = cc in
      subst (λ (x : ℕ). EscapeTaken first r w t x) same (taking_zero first r w t
      (subst (λ (v : List ℕ). BeginsDigit v → ⊥) tails no_digit)
      (subst (λ (v : List ℕ). AfterEnd first 0 r v t) tails i))
  taking_char_escape d text after (two_digits {text = v} h) e i =
      let same : 120 ≡ c = cc in
      let tails : v ≡ w = cc in
      subst (λ (x : ℕ). EscapeTaken first r w t x) same (taking_two first r w t d after
      (subst (λ (v : List ℕ). Hex 2 0 v after d) tails h) i)
  taking_char_escape d text after (four_digits {text = v} h none) e i =
      let same : 117 ≡ c = cc in
      let tails : v ≡ w = cc in
      subst (λ (x : ℕ). EscapeTaken first r w t x) same (taking_four first r w t d after
      (subst (λ (v : List ℕ). Hex 4 0 v after d) tails h) none i)

  -- an escape with its backslash is taken
  taking_escaped : (d : ℕ) (text after : List ℕ) → ClassChar d text after → text ≡ 92 ∷ c ∷ w
      → AfterEnd first d r after t → EscapeTaken first r w t c
  taking_escaped d text after (itself tests) e i =
      let same : d ≡ 92 =
      cc in absurd (false≢true (sym (subst (λ (x : ℕ). (x == 93 || x == 92 || x == 45) ≡ false) same tests)))
  taking_escaped d text after (class_escape {text = v} read) e i = taking_char_escape d v after read (cc) i
  taking_escaped d text after backspace e i =
      let same : 98 ≡ c = cc in
      let tails : after ≡ w = cc in
      subst (λ (x : ℕ). EscapeTaken first r w t x) same (taking_class_character first 8 r w t
      (subst (λ (v : List ℕ). AfterEnd first 8 r v t) tails i))

-- an escape in a class
taking_escape : (first : Option ℕ) (c : ℕ) (r : Reading) (w : List ℕ) (t : Tree) → InEscape first r (c ∷ w) t
    → Taken (class_set (set_of c) first c r) w t
taking_escape (Some first) c r w t i =
    taking_escaped (Some first) r c w t i.2 (92 ∷ c ∷ w) i.3 i.4 refl (i.0, i.1, (i.5, i.6), i.7)
taking_escape None c r w t i = by_item (c ∷ w) i.2 refl
  where
    by_item : (text : List ℕ) → EscapeItem r.ranges text i.1 i.0 → text ≡ c ∷ w
        → Taken (class_set (set_of c) None c r) w t
    by_item text (escape_set {letter = letter} {more = more} {text = v} set items) e =
        let same : letter ≡ c = cc in
        let here : set_of c ≡ Some more = subst (λ (x : ℕ). set_of x ≡ Some more) same set in
        let tails : v ≡ w = cc in
        subst (λ (o : Option (List CharRange)). Taken (class_set o None c r) w t) (sym here) (
          with_ranges more r,
          refl,
          (
            i.0,
            i.1,
            subst (λ (v : List ℕ). Items range_or_set (r.ranges ++ more) v i.1 i.0) tails items,
            i.3,
          ),
        )
    by_item text (escape_char {c = d} {mid = mid} read after) e =
        taking_escaped None r c w t d (92 ∷ text) mid read (cc) (i.0, i.1, after, i.3)

-- a hexadecimal digit, of a number that can still become a character: what it makes of the number, and the greatest
-- character that is left
abbrev DigitTaken : ℕ → ℕ → ℕ → ℕ → List ℕ → List ℕ → Type 0
DigitTaken value left c ch w mid =
    (d : ℕ) × (g : ℕ) × (hex_value c ≡ Some d) × Hex left (value * 16 + d) w mid ch
    × (greatest_from (value * 16 + d) left ≡ Some g) × (ch ≤ g) × (left ≡ 0 → g ≡ ch) × (nat_lt 0xfff value ≡ false)

-- a number of three digits can have one more
no_more : (value : ℕ) → value < 4096 → nat_lt 0xfff value ≡ false
no_more value lt = grind (arith, nat_tests)

-- the first digit of them
digit_first : (left value c ch : ℕ) (w mid : List ℕ) → Hex (suc left) value (c ∷ w) mid ch → (d : ℕ)
    × (hex_value c ≡ Some d) × Hex left (value * 16 + d) w mid ch × (d < 16)
digit_first left value c ch w mid h =
    let same : h.0 ≡ c = cc (h.3) in
    let tails : h.2 ≡ w = cc (h.3) in (
      h.1,
      subst (λ (x : ℕ). hex_value x ≡ Some h.1) same h.4,
      subst (λ (v : List ℕ). Hex left (value * 16 + h.1) v mid ch) tails h.5,
      hex_digit h.0 h.1 h.4,
    )

-- a digit is taken of a number that can still become a character
digit_taken : (first : Option ℕ) (value left c ch : ℕ) (w mid : List ℕ) → IsPartial first value left
    → Hex left value (c ∷ w) mid ch → is_surrogate ch ≡ false → (l : ℕ) × (left ≡ suc l) × DigitTaken value l c ch w mid
digit_taken first value zero c ch w mid p h none = absurd p
digit_taken first value (suc zero) c ch w mid p h none =
    let d = digit_first 0 value c ch w mid h in (
      0,
      refl,
      (
        d.0,
        ch,
        d.1,
        d.2,
        greatest_last (value * 16 + d.0) ch none (omega (arith, d.3, p.0)) d.2.1,
        omega arith,
        λ y. refl,
        no_more value p.0,
      ),
    )
digit_taken first value (suc (suc zero)) c ch w mid p h none =
    let d = digit_first 1 value c ch w mid h in
    let g = greatest_with_one (value * 16 + d.0) w mid ch none (omega (arith, d.3, p.0)) d.2 in
    (1, refl, (d.0, g.0, d.1, d.2, g.1, g.2, λ y. absurd (omega (arith, y)), no_more value (omega (arith, p.0))))
digit_taken first value (suc (suc (suc zero))) c ch w mid p h none =
    let d = digit_first 2 value c ch w mid h in
    let g = greatest_with_two (value * 16 + d.0) w mid ch none (omega (arith, d.3, p.0)) d.2 in
    (2, refl, (d.0, g.0, d.1, d.2, g.1, g.2, λ y. absurd (omega (arith, y)), no_more value (omega (arith, p.0))))
digit_taken first value (suc (suc (suc (suc zero)))) c ch w mid p h none =
    let d = digit_first 3 value c ch w mid h in
    let g = greatest_with_three (value * 16 + d.0) w mid ch none (omega (arith, d.3, p.0)) d.2 in
    (3, refl, (d.0, g.0, d.1, d.2, g.1, g.2, λ y. absurd (omega (arith, y)), no_more value (omega (arith, p.0))))
digit_taken first value (suc (suc (suc (suc (suc n))))) c ch w mid p h none = absurd p

-- one digit less is left
one_less : (left : ℕ) → left ≡ suc left - 1
one_less left = omega arith

-- the guard on a number's digits
hex_unguarded : (value left : ℕ) → nat_lt 0xfff value ≡ false → (nat_lt 0xfff value || (suc left == 0)) ≡ false
hex_unguarded value left small = rw (small, ne_eqb (suc left) 0 (λ e. absurd (omega (arith, e)))) refl

-- hexadecimal digits
pub taking_hex : (value left c : ℕ) (r : Reading) (w : List ℕ) (t : Tree) → r.mode ≡ modes.Hex value left
    → IsPartial None value left → CompletesIn (modes.Hex value left) r (c ∷ w) t
    → Taken (step_in (modes.Hex value left) c r) w t
taking_hex value left c r w t m p h = by_digit (digit_taken None value left c h.0 w h.1 p h.2 h.3)
  where
    by_end : (l d g : ℕ) → Hex l (value * 16 + d) w h.1 h.0 → (l ≡ 0 → g ≡ h.0) → (b : Bool) → l == 0 ≡ b
        → Taken (cond b (Some (with_atom (char g) r)) (Some (at (modes.Hex (value * 16 + d) l) r))) w t
    by_end l d g more last true y =
        let l0 : l ≡ 0 = eqb-true l 0 y in
        let ended = subst (λ (k : ℕ). Hex k (value * 16 + d) w h.1 h.0) l0 more in (
          with_atom (char g) r,
          refl,
          subst (λ (v : List ℕ). AfterAtom (char g) r.trees r.groups v t) (sym ended.0)
              (subst (λ (k : ℕ). AfterAtom (char k) r.trees r.groups h.1 t) (sym (last l0)) h.4),
        )
    by_end l d g more last false y = (at (modes.Hex (value * 16 + d) l) r, refl, (h.0, h.1, more, h.3, h.4))

    by_digit : (l : ℕ) × (left ≡ suc l) × DigitTaken value l c h.0 w h.1 → Taken (hex_by (hex_value c) value left r) w t
    by_digit (l, is, (d, g, here, more, greatest, within, last, small)) =
        subst (λ (o : Option ℕ). Taken (hex_by o value left r) w t) (sym here)
        (subst (λ (k : ℕ). Taken (hex_by (Some d) value k r) w t) (sym is)
        (taken_else (nat_lt 0xfff value || (suc l == 0)) _ _ w t (hex_unguarded value l small)
        (subst (λ (k : ℕ). Taken (hex_to (greatest_from (value * 16 + d) k) (value * 16 + d) k r) w t) (one_less l)
        (subst (λ (o : Option ℕ). Taken (hex_to o (value * 16 + d) l r) w t) (sym greatest)
        (by_end l d g more last (l == 0) refl)))))

-- a hexadecimal digit of an escape in a class is taken
pub taking_class_hex : (first : Option ℕ) (value left c : ℕ) (r : Reading) (w : List ℕ) (t : Tree)
    → r.mode ≡ modes.ClassHex first value left → IsPartial first value left
    → CompletesIn (modes.ClassHex first value left) r (c ∷ w) t
    → Taken (step_in (modes.ClassHex first value left) c r) w t
taking_class_hex first value left c r w t m p h = by_digit (digit_taken first value left c h.2 w h.3 p h.4 h.5)
  where
    by_end : (l d g : ℕ) → Hex l (value * 16 + d) w h.3 h.2 → (l ≡ 0 → g ≡ h.2) → (b : Bool) → l == 0 ≡ b
        → Taken (cond b (class_char first g r) (Some (at (modes.ClassHex first (value * 16 + d) l) r))) w t
    by_end l d g more last true y =
        let l0 : l ≡ 0 = eqb-true l 0 y in
        let ended = subst (λ (k : ℕ). Hex k (value * 16 + d) w h.3 h.2) l0 more in
        taking_class_character first g r w t (subst (λ (v : List ℕ). AfterEnd first g r v t) (sym ended.0)
        (subst (λ (k : ℕ). AfterEnd first k r h.3 t) (sym (last l0)) (h.0, h.1, h.6, h.7)))
    by_end l d g more last false y =
        (at (modes.ClassHex first (value * 16 + d) l) r, refl, (h.0, h.1, h.2, h.3, more, h.5, h.6, h.7))

    by_digit : (l : ℕ) × (left ≡ suc l) × DigitTaken value l c h.2 w h.3
        → Taken (class_hex_by (hex_value c) first value left r) w t
    by_digit (l, is, (d, g, here, more, greatest, within, last, small)) =
        subst (λ (o : Option ℕ). Taken (class_hex_by o first value left r) w t) (sym here)
        (subst (λ (k : ℕ). Taken (class_hex_by (Some d) first value k r) w t) (sym is)
        (taken_else (nat_lt 0xfff value || (suc l == 0)) _ _ w t (hex_unguarded value l small)
        (subst (λ (k : ℕ). Taken (class_hex_to (greatest_from (value * 16 + d) k) first (value * 16 + d) k r) w t)
        (one_less l)
        (subst (λ (o : Option ℕ). Taken (class_hex_to o first (value * 16 + d) l r) w t) (sym greatest)
        (taken_then (can_end first g) _ _ w t (ended_can_end first h.2 g r.ranges h.0 h.3 h.1 h.6 within)
        (by_end l d g more last (l == 0) refl))))))

-- what is taken of a class, in each of its states
pub taking_class_open : (c : ℕ) (r : Reading) (w : List ℕ) (t : Tree) → r.mode ≡ ClassOpen
    → CompletesIn ClassOpen r (c ∷ w) t → Taken (step_in ClassOpen c r) w t
taking_class_open c r w t m (inl h) =
    taken_else (c == 94) _ _ w t (ne_eqb c 94 h.0) (taking_item bracket c r w t (λ y. refl) h.1)
taking_class_open c r w t m (inr h) =
    let same : c ≡ 94 = cc (h.1) in
    let tails : h.0 ≡ w = cc (h.1) in
    taken_then (c == 94) _ _ w t (eq-eqb c 94 same) (
      at ClassFirst (record r { negated = true }),
      refl,
      subst (λ (v : List ℕ). InClass bracket (record r { negated = true }) v t) tails h.2,
    )

pub taking_class_first : (c : ℕ) (r : Reading) (w : List ℕ) (t : Tree) → r.mode ≡ ClassFirst
    → CompletesIn ClassFirst r (c ∷ w) t → Taken (step_in ClassFirst c r) w t
taking_class_first c r w t m h = taking_item bracket c r w t (λ y. refl) h

pub taking_class_next : (c : ℕ) (r : Reading) (w : List ℕ) (t : Tree) → r.mode ≡ ClassNext
    → CompletesIn ClassNext r (c ∷ w) t → Taken (step_in ClassNext c r) w t
taking_class_next c r w t m h = taking_next_item c r w t h

pub taking_class_next_dash : (c : ℕ) (r : Reading) (w : List ℕ) (t : Tree) → r.mode ≡ ClassNextDash
    → CompletesIn ClassNextDash r (c ∷ w) t → Taken (step_in ClassNextDash c r) w t
taking_class_next_dash c r w t m h = taking_next_dash c r w t h

pub taking_class_next_dashes : (c : ℕ) (r : Reading) (w : List ℕ) (t : Tree) → r.mode ≡ ClassNextDashes
    → CompletesIn ClassNextDashes r (c ∷ w) t → Taken (step_in ClassNextDashes c r) w t
taking_class_next_dashes c r w t m h =
    taken_else (c == 93) _ _ w t (no_range_end h.2 c w h.3 h.4) (taking_range_end 45 c r w t h)

pub taking_class_char : (first c : ℕ) (r : Reading) (w : List ℕ) (t : Tree) → r.mode ≡ modes.ClassChar first
    → CompletesIn (modes.ClassChar first) r (c ∷ w) t → Taken (step_in (modes.ClassChar first) c r) w t
taking_class_char first c r w t m h = taking_after_char first c r w t h

pub taking_class_dash : (first c : ℕ) (r : Reading) (w : List ℕ) (t : Tree) → r.mode ≡ modes.ClassDash first
    → CompletesIn (modes.ClassDash first) r (c ∷ w) t → Taken (step_in (modes.ClassDash first) c r) w t
taking_class_dash first c r w t m h = taking_after_dash first c r w t h

pub taking_class_zero : (is_last : Bool) (c : ℕ) (r : Reading) (w : List ℕ) (t : Tree)
    → r.mode ≡ modes.ClassZero is_last → CompletesIn (modes.ClassZero is_last) r (c ∷ w) t
    → Taken (step_in (modes.ClassZero is_last) c r) w t
taking_class_zero true c r w t m h =
    taken_else (is_ascii_digit c) _ _ w t (false_from_ne_true (is_ascii_digit c) h.0) (taking_next_item c r w t h.1)
taking_class_zero false c r w t m h =
    taken_else (is_ascii_digit c) _ _ w t (false_from_ne_true (is_ascii_digit c) h.0) (taking_after_char 0 c r w t h.1)

pub taking_class_escape : (first : Option ℕ) (c : ℕ) (r : Reading) (w : List ℕ) (t : Tree)
    → r.mode ≡ modes.ClassEscape first → CompletesIn (modes.ClassEscape first) r (c ∷ w) t
    → Taken (step_in (modes.ClassEscape first) c r) w t
taking_class_escape first c r w t m h = taking_escape first c r w t h
