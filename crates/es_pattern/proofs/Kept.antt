-- What holds of every state is kept by each character.
use Rattle.std.proofs.Common.{
  ◌≡◌,
  ℕ,
  zero,
  suc,
  ◌+◌,
  ◌-◌,
  ◌*◌,
  ◌<◌,
  ◌≤◌,
  Bool,
  true,
  false,
  cond,
  List,
  [],
  ◌∷◌,
  ◌++◌,
  length,
  get_or,
  take,
  Option,
  Some,
  None,
  refl,
  sym,
  ap,
  subst,
  ◌∙◌,
  arith,
}
use Rattle.std.specs.Prelude.{◌==◌, ◌&&◌, ◌||◌, max, nat_le, nat_lt, option_and_then}
use Rattle.std.proofs.lemmas.Option.{same_Some}
use Rattle.std.proofs.lemmas.Bool.{false≢true, eqb-true, ltb-false, leb-true}
use Rattle.std.proofs.lemmas.Bool.Decides.{nat_tests}
use Rattle.es_pattern.specs.Tree.{
  Tree,
  CharRange,
  nothing,
  one_of,
  text_start,
  text_end,
  word_boundary,
  sequence,
  choice,
  repetition,
  lookahead,
}
use Rattle.es_pattern.specs.Pieces.{top, below}
use Rattle.es_pattern.specs.Escapes.{is_ascii_digit, set_of, escaped, hex_value, is_surrogate}
use Rattle.es_pattern.specs.Grammar.{char, any}
use Rattle.es_pattern.specs.Limits.{product_of, count_of, is_above_limit}
use Rattle.es_pattern.specs.declared.mode.Open.{Open}
use Rattle.es_pattern.specs.declared.mode.Open.TheVariants.{Group, Ahead}
use Rattle.es_pattern.specs.declared.mode.Mode.{Mode}
use Rattle.es_pattern.specs.declared.mode.Mode.TheVariants.{
  Term,
  Atom,
  Quantified,
  Zero,
  Braces,
  Escape,
  Paren,
  ParenQuestion,
  ClassOpen,
  ClassFirst,
  ClassNext,
  ClassNextDash,
  ClassNextDashes,
}
use Rattle.es_pattern.specs.declared.mode.Mode.TheVariants as modes
use Rattle.es_pattern.specs.Reading.{
  Reading,
  asserted,
  joined,
  leaf,
  chosen,
  with_atom,
  flushed_chars,
  charged,
  with_term,
  top_product,
  products_below,
  closed_by,
  quantified,
  marked,
  term_begun,
  plain,
  with_set,
  with_char,
  settled,
  opened,
  at,
  greatest_from,
  scalar,
  hex_to,
  hex_by,
  flushed,
  bounds_of,
  overcounts,
  overcounts_in,
  overcounts_at,
  in_braces_end,
  is_inner,
  in_braces,
  ranged,
  class_end,
  item,
  next_item,
  after_char,
  class_char,
  range_end,
  after_dash,
  next_dash,
  next_dashes,
  class_char_if,
  can_end,
  class_zero,
  with_ranges,
  class_set,
  class_hex_to,
  class_hex_by,
  step_in,
  step,
  start,
  reads,
}
use Rattle.es_pattern.specs.Parsing.{PassesBefore}
use Rattle.es_pattern.proofs.BracesRead.{inner-append}
use Rattle.es_pattern.proofs.Sound.{if_else, inner_is, scalar_is, hex_guard}
use Rattle.es_pattern.proofs.Parsings.{reads_last, passes_less}
use Rattle.es_pattern.proofs.Sane.{
  CanEnd,
  greatest_of_three,
  IsPartial,
  IsSane,
  IsSaneIn,
  Outer,
  MeasuredBase,
  after_atom_in,
  IsMeasured,
}
use Rattle.es_pattern.proofs.NumberTests.{no_some}
use Rattle.es_pattern.proofs.HexDigits.{hex_digit}

-- what holds of the state that is made
sane_at : (x s : Reading) → Some x ≡ Some s → IsSane x → IsSane s
sane_at x s e h = subst (λ (y : Reading). IsSane y) (same_Some x s e) h

closed_sane : (gs : List Open) (r s : Reading) → closed_by gs r ≡ Some s → IsSane s
closed_sane [] r s e = no_some s e
closed_sane (Group ∷ gs) r s e = sane_at _ s e tt
closed_sane (Ahead negated ∷ gs) r s e = sane_at _ s e tt

-- where a term may begin
term_sane : (c : ℕ) (r s : Reading) → term_begun c r ≡ Some s → IsSane s
term_sane c r s e =
    let P : Type 0 = IsSane s in
    if_else (c == 94) _ _ s P e (λ y x. sane_at _ s x tt) (λ n e2.
    if_else (c == 36) _ _ s P e2 (λ y x. sane_at _ s x tt) (λ n e3.
    if_else (c == 124) _ _ s P e3 (λ y x. sane_at _ s x tt) (λ n e4.
    if_else (c == 41) _ _ s P e4 (λ y x. closed_sane r.groups r s x) (λ n e5.
    if_else (c == 40) _ _ s P e5 (λ y x. sane_at _ s x tt) (λ n e6.
    if_else (c == 91) _ _ s P e6 (λ y x. sane_at _ s x tt) (λ n e7.
    if_else (c == 92) _ _ s P e7 (λ y x. sane_at _ s x tt) (λ n e8.
    if_else (c == 46) _ _ s P e8 (λ y x. sane_at _ s x tt) (λ n x. sane_at _ s x tt))))))))

marked_sane : (after_atom : Bool) (product least : ℕ) (most : Option ℕ) (r s : Reading)
    → marked after_atom product least most r ≡ Some s → IsSane s
marked_sane true product least most r s e = sane_at _ s e tt
marked_sane false product least most r s e = no_some s e

lazy_sane : (after_atom may_be_lazy : Bool) (r s : Reading)
    → cond may_be_lazy (Some (at Term r)) (marked after_atom r.atom_product 0 (Some 1) r) ≡ Some s → IsSane s
lazy_sane after_atom true r s e = sane_at _ s e tt
lazy_sane after_atom false r s e = marked_sane after_atom r.atom_product 0 (Some 1) r s e

-- whatever was read before
plain_sane : (after_atom may_be_lazy : Bool) (c : ℕ) (r s : Reading) → plain after_atom may_be_lazy c r ≡ Some s
    → IsSane s
plain_sane after_atom may_be_lazy c r s e =
    let P : Type 0 = IsSane s in
    if_else (c == 42) _ _ s P e (λ y x. marked_sane after_atom r.atom_product 0 None r s x) (λ n e2.
    if_else (c == 43) _ _ s P e2 (λ y x. marked_sane after_atom r.atom_product 1 None r s x) (λ n e3.
    if_else (c == 63) _ _ s P e3 (λ y x. lazy_sane after_atom may_be_lazy r s x) (λ n e4.
    if_else (c == 123) _ _ s P e4 (λ y x. sane_at (at (Braces after_atom) (record r { braces = [] })) s x tt)
    (λ n x. term_sane c (settled after_atom r) s x))))

in_braces_sane : (after_atom : Bool) (c : ℕ) (r s : Reading) → r.mode ≡ Braces after_atom
    → IsSaneIn (Braces after_atom) r → in_braces after_atom c r ≡ Some s → IsSane s
in_braces_sane after_atom c r s m inner e =
    let P : Type 0 = IsSane s in
    if_else (is_inner r.braces c) _ _ s P e (λ y x. goes_on y x) (λ out e2.
    if_else (c == 125) _ _ s P e2 (λ y x. at_end (bounds_of r.braces) x)
    (λ n x. plain_sane true false c (flushed after_atom r) s x))
  where
    more : Reading
    more = record r { braces = r.braces ++ c ∷ [] }

    goes_on : is_inner r.braces c ≡ true → Some more ≡ Some s → IsSane s
    goes_on y x =
        let i : IsSaneIn (Braces after_atom) more = inner-append r.braces (c ∷ []) inner (inner_is r.braces c y, tt) in
        sane_at more s x (subst (λ (k : Mode). IsSaneIn k more) (sym m) i)

    at_end : (o : Option (ℕ × Option ℕ)) → in_braces_end o after_atom c r ≡ Some s → IsSane s
    at_end None x = plain_sane true false c (flushed after_atom r) s x
    at_end (Some bounds) x = marked_sane after_atom _ bounds.0 bounds.1 r s x

-- hexadecimal digits
can_end_is : (first : Option ℕ) (c : ℕ) → can_end first c ≡ true → CanEnd first c
can_end_is None c h = tt
can_end_is (Some f) c h = leb-true f c h

is_thirteen : (v : ℕ) → is_surrogate (v * 4096 + 4095) ≡ true → v == 13 ≡ true
is_thirteen v h =
    let low : 0xd800 ≤ v * 4096 + 4095 = grind (arith, nat_tests) in
    let high : v * 4096 + 4095 ≤ 0xdfff = grind (arith, nat_tests) in
    let is : v ≡ 13 = omega (arith, low, high) in
    grind (arith, nat_tests)

no_thirteen : (v : ℕ) → is_surrogate (v * 4096 + 4095) ≡ false → v == 13 ≡ false
no_thirteen v h = by_test (v == 13) refl
  where
    by_test : (b : Bool) → v == 13 ≡ b → b ≡ false
    by_test true y = absurd (false≢true (sym h
        ∙ subst (λ (k : ℕ). is_surrogate (k * 4096 + 4095) ≡ true) (sym (eqb-true v 13 y)) refl))
    by_test false y = refl

three_greatest : (v g : ℕ) → greatest_from v 3 ≡ Some g → g ≡ greatest_of_three v
three_greatest v g e = by_test (is_surrogate (v * 4096 + 4095)) refl e
  where
    by_test : (b : Bool) → is_surrogate (v * 4096 + 4095) ≡ b → cond b (Some 0xd7ff) (scalar (v * 4096 + 4095)) ≡ Some g
        → g ≡ greatest_of_three v
    by_test true y x = rw (is_thirteen v y) (sym (same_Some 0xd7ff g x))
    by_test false y x = rw (no_thirteen v y) (sym ((scalar_is 0 g (v * 4096 + 4095) x).0))

-- a digit more
next_partial : (first : Option ℕ) (value l d g : ℕ) → IsPartial first value (suc l) → d < 16 → l == 0 ≡ false
    → greatest_from (value * 16 + d) l ≡ Some g → CanEnd first g → IsPartial first (value * 16 + d) l
next_partial first value zero d g p lt n e k = absurd (false≢true (sym n))
next_partial first value (suc zero) d g p lt n e k =
    let s = scalar_is 0 g ((value * 16 + d) * 16 + 15) e in
    let small : value < 256 = p.0 in
    (omega (arith, small, lt), s.1, subst (λ (j : ℕ). CanEnd first j) (sym s.0) k)
next_partial first value (suc (suc zero)) d g p lt n e k =
    let s = scalar_is 0 g ((value * 16 + d) * 256 + 255) e in
    let small : value < 16 = p.0 in
    (omega (arith, small, lt), s.1, subst (λ (j : ℕ). CanEnd first j) (sym s.0) k)
next_partial first value (suc (suc (suc zero))) d g p lt n e k =
    let none : value ≡ 0 = p.0 in
    (omega (arith, none, lt), subst (λ (j : ℕ). CanEnd first j) (three_greatest (value * 16 + d) g e) k)
next_partial first value (suc (suc (suc (suc l)))) d g p lt n e k = absurd p

hex_sane : (value left c : ℕ) (r s : Reading) → IsPartial None value left → hex_by (hex_value c) value left r ≡ Some s
    → IsSane s
hex_sane value left c r s p e = by_digit (hex_value c) refl e
  where
    by_left : (d l : ℕ) → d < 16 → left ≡ suc l → (o : Option ℕ) → greatest_from (value * 16 + d) l ≡ o
        → hex_to o (value * 16 + d) l r ≡ Some s → IsSane s
    by_left d l lt is None g x = no_some s x
    by_left d l lt is (Some greatest) g x =
        if_else (l == 0) _ _ s (IsSane s) x (λ z y. sane_at _ s y tt)
        (λ z y. sane_at (at (modes.Hex (value * 16 + d) l) r) s y
        (next_partial None value l d greatest (subst (λ (k : ℕ). IsPartial None value k) is p) lt z g tt))

    by_digit : (o : Option ℕ) → hex_value c ≡ o → hex_by o value left r ≡ Some s → IsSane s
    by_digit None here x = no_some s x
    by_digit (Some d) here x = hex_guard value left None (hex_to (greatest_from (value * 16 + d) (left - 1))
        (value * 16 + d) (left - 1) r) s (IsSane s) x
        (λ l is y. let same : left - 1 ≡ l = omega (arith, is) in
        by_left d l (hex_digit c d here) is (greatest_from (value * 16 + d) l) refl
        (subst (λ (k : ℕ). hex_to (greatest_from (value * 16 + d) k) (value * 16 + d) k r ≡ Some s) same y))

escape_sane : (c : ℕ) (r s : Reading) → with_set (set_of c) c r ≡ Some s → IsSane s
escape_sane c r s e = by_set (set_of c) e
  where
    by_char : (o : Option ℕ) → with_char o r ≡ Some s → IsSane s
    by_char None x = no_some s x
    by_char (Some v) x = sane_at _ s x tt

    by_set : (o : Option (List CharRange)) → with_set o c r ≡ Some s → IsSane s
    by_set (Some ranges) x = sane_at _ s x tt
    by_set None x =
        let P : Type 0 = IsSane s in
        if_else (c == 98) _ _ s P x (λ y z. sane_at _ s z tt) (λ n x2.
        if_else (c == 66) _ _ s P x2 (λ y z. sane_at _ s z tt) (λ n x3.
        if_else (c == 120) _ _ s P x3 (λ y z. sane_at (at (modes.Hex 0 2) r) s z (omega arith, refl, tt)) (λ n x4.
        if_else (c == 117) _ _ s P x4 (λ y z. sane_at (at (modes.Hex 0 4) r) s z (refl, tt)) (λ n x5.
        if_else (c == 48) _ _ s P x5 (λ y z. sane_at _ s z tt) (λ n x6. by_char (escaped c) x6)))))

-- classes
item_sane : (c : ℕ) (r s : Reading) → item c r ≡ Some s → IsSane s
item_sane c r s e =
    if_else (c == 93) _ _ s (IsSane s) e (λ y x. sane_at _ s x tt) (λ n e2.
    if_else (c == 92) _ _ s (IsSane s) e2 (λ y x. sane_at (at (modes.ClassEscape None) r) s x tt)
    (λ n x. sane_at _ s x tt))

next_item_sane : (c : ℕ) (r s : Reading) → next_item c r ≡ Some s → IsSane s
next_item_sane c r s e = if_else (c == 45) _ _ s (IsSane s) e (λ y x. sane_at _ s x tt) (λ n x. item_sane c r s x)

after_char_sane : (first c : ℕ) (r s : Reading) → after_char first c r ≡ Some s → IsSane s
after_char_sane first c r s e =
    if_else (c == 45) _ _ s (IsSane s) e (λ y x. sane_at _ s x tt) (λ n x. item_sane c (ranged first first r) s x)

class_char_sane : (first : Option ℕ) (c : ℕ) (r s : Reading) → class_char first c r ≡ Some s → IsSane s
class_char_sane None c r s e = sane_at _ s e tt
class_char_sane (Some first) c r s e =
    if_else (nat_le first c) _ _ s (IsSane s) e (λ y x. sane_at _ s x tt) (λ n x. no_some s x)

range_end_sane : (first c : ℕ) (r s : Reading) → range_end first c r ≡ Some s → IsSane s
range_end_sane first c r s e =
    let P : Type 0 = IsSane s in
    if_else (c == 92) _ _ s P e (λ y x. if_else (nat_le first 0xffff) _ _ s P x
    (λ z g. sane_at (at (modes.ClassEscape (Some first)) r) s g (can_end_is (Some first) 0xffff z))
    (λ z g. no_some s g)) (λ n e2.
    if_else (c == 45) _ _ s P e2 (λ y x. if_else (nat_le first 45) _ _ s P x (λ z g. sane_at _ s g tt)
    (λ z g. no_some s g)) (λ n x. class_char_sane (Some first) c r s x))

after_dash_sane : (first c : ℕ) (r s : Reading) → after_dash first c r ≡ Some s → IsSane s
after_dash_sane first c r s e =
    if_else (c == 93) _ _ s (IsSane s) e (λ y x. sane_at _ s x tt) (λ n x. range_end_sane first c r s x)

next_dash_sane : (c : ℕ) (r s : Reading) → next_dash c r ≡ Some s → IsSane s
next_dash_sane c r s e = if_else (c == 93) _ _ s (IsSane s) e (λ y x. sane_at _ s x tt)
    (λ n e2. if_else (c == 45) _ _ s (IsSane s) e2 (λ y x. sane_at _ s x tt) (λ n x. no_some s x))

next_dashes_sane : (c : ℕ) (r s : Reading) → next_dashes c r ≡ Some s → IsSane s
next_dashes_sane c r s e = if_else (c == 93) _ _ s (IsSane s) e (λ y x. no_some s x) (λ n x. range_end_sane 45 c r s x)

class_escape_sane : (first : Option ℕ) (c : ℕ) (r s : Reading) → CanEnd first 0xffff
    → class_set (set_of c) first c r ≡ Some s → IsSane s
class_escape_sane first c r s can e = by_set (set_of c) first can e
  where
    zero_sane : (f : Option ℕ) → class_zero f r ≡ Some s → IsSane s
    zero_sane None x = sane_at _ s x tt
    zero_sane (Some k) x = if_else (k == 0) _ _ s (IsSane s) x (λ y g. sane_at _ s g tt) (λ y g. no_some s g)

    by_char : (f : Option ℕ) (o : Option ℕ) → class_char_if f o r ≡ Some s → IsSane s
    by_char f None x = no_some s x
    by_char f (Some v) x = class_char_sane f v r s x

    rest_sane : (f : Option ℕ) → CanEnd f 0xffff → class_set None f c r ≡ Some s → IsSane s
    rest_sane f can x =
        let P : Type 0 = IsSane s in
        if_else (c == 98) _ _ s P x (λ y g. class_char_sane f 8 r s g) (λ n x2.
        if_else (c == 120) _ _ s P x2 (λ y g. if_else (can_end f 0xff) _ _ s P g
        (λ z k. sane_at (at (modes.ClassHex f 0 2) r) s k (omega arith, refl, can_end_is f 0xff z))
        (λ z k. no_some s k)) (λ n x3.
        if_else (c == 117) _ _ s P x3 (λ y g. if_else (can_end f 0xffff) _ _ s P g
        (λ z k. sane_at (at (modes.ClassHex f 0 4) r) s k (refl, can_end_is f 0xffff z)) (λ z k. no_some s k))
        (λ n x4.
        if_else (c == 48) _ _ s P x4 (λ y g. zero_sane f g) (λ n x5. by_char f (escaped c) x5))))

    by_set : (o : Option (List CharRange)) (f : Option ℕ) → CanEnd f 0xffff → class_set o f c r ≡ Some s → IsSane s
    by_set (Some ranges) None can x = sane_at _ s x tt
    by_set (Some ranges) (Some k) can x = no_some s x
    by_set None f can x = rest_sane f can x

class_hex_sane : (first : Option ℕ) (value left c : ℕ) (r s : Reading) → IsPartial first value left
    → class_hex_by (hex_value c) first value left r ≡ Some s → IsSane s
class_hex_sane first value left c r s p e = by_digit (hex_value c) refl e
  where
    by_left : (d l : ℕ) → d < 16 → left ≡ suc l → (o : Option ℕ) → greatest_from (value * 16 + d) l ≡ o
        → class_hex_to o first (value * 16 + d) l r ≡ Some s → IsSane s
    by_left d l lt is None g x = no_some s x
    by_left d l lt is (Some greatest) g x =
        if_else (can_end first greatest) _ _ s (IsSane s) x (λ ok x2.
        if_else (l == 0) _ _ s (IsSane s) x2 (λ z y. class_char_sane first greatest r s y)
        (λ z y. sane_at (at (modes.ClassHex first (value * 16 + d) l) r) s y
        (next_partial first value l d greatest (subst (λ (k : ℕ). IsPartial first value k) is p) lt z g
        (can_end_is first greatest ok))))
        (λ ok x2. no_some s x2)

    by_digit : (o : Option ℕ) → hex_value c ≡ o → class_hex_by o first value left r ≡ Some s → IsSane s
    by_digit None here x = no_some s x
    by_digit (Some d) here x = hex_guard value left None (class_hex_to (greatest_from (value * 16 + d) (left - 1)) first
        (value * 16 + d) (left - 1) r) s (IsSane s) x
        (λ l is y. let same : left - 1 ≡ l = omega (arith, is) in
        by_left d l (hex_digit c d here) is (greatest_from (value * 16 + d) l) refl
        (subst (λ (k : ℕ). class_hex_to (greatest_from (value * 16 + d) k) first (value * 16 + d) k r ≡ Some s) same y))

-- each character
step_sane : (m : Mode) (c : ℕ) (r s : Reading) → r.mode ≡ m → IsSaneIn m r → step_in m c r ≡ Some s → IsSane s
step_sane Term c r s m h e = plain_sane false false c r s e
step_sane Atom c r s m h e = plain_sane true false c r s e
step_sane Quantified c r s m h e = plain_sane false true c r s e
step_sane Zero c r s m h e =
    if_else (is_ascii_digit c) _ _ s (IsSane s) e (λ y x. no_some s x) (λ n x. plain_sane true false c r s x)
step_sane (Braces after_atom) c r s m h e = in_braces_sane after_atom c r s m h e
step_sane Escape c r s m h e = escape_sane c r s e
step_sane (modes.Hex value left) c r s m h e = hex_sane value left c r s h e
step_sane Paren c r s m h e = if_else (c == 63) _ _ s (IsSane s) e (λ y x. sane_at _ s x tt)
    (λ n x. plain_sane false false c (opened Group r) s x)
step_sane ParenQuestion c r s m h e =
    if_else (c == 58) _ _ s (IsSane s) e (λ y x. sane_at _ s x tt) (λ n e2.
    if_else (c == 61) _ _ s (IsSane s) e2 (λ y x. sane_at _ s x tt) (λ n e3.
    if_else (c == 33) _ _ s (IsSane s) e3 (λ y x. sane_at _ s x tt) (λ n x. no_some s x)))
step_sane ClassOpen c r s m h e =
    if_else (c == 94) _ _ s (IsSane s) e (λ y x. sane_at _ s x tt) (λ n x. item_sane c r s x)
step_sane ClassFirst c r s m h e = item_sane c r s e
step_sane ClassNext c r s m h e = next_item_sane c r s e
step_sane ClassNextDash c r s m h e = next_dash_sane c r s e
step_sane ClassNextDashes c r s m h e = next_dashes_sane c r s e
step_sane (modes.ClassChar first) c r s m h e = after_char_sane first c r s e
step_sane (modes.ClassDash first) c r s m h e = after_dash_sane first c r s e
step_sane (modes.ClassZero true) c r s m h e =
    if_else (is_ascii_digit c) _ _ s (IsSane s) e (λ y x. no_some s x) (λ n x. next_item_sane c r s x)
step_sane (modes.ClassZero false) c r s m h e =
    if_else (is_ascii_digit c) _ _ s (IsSane s) e (λ y x. no_some s x) (λ n x. after_char_sane 0 c r s x)
step_sane (modes.ClassEscape first) c r s m h e = class_escape_sane first c r s h e
step_sane (modes.ClassHex first value left) c r s m h e = class_hex_sane first value left c r s h e

pub sane_next : (c : ℕ) (r s : Reading) → IsSane r → step c r ≡ Some s → IsSane s
sane_next c r s h e = step_sane r.mode c r s refl h e

-- all that a text leads to
sane_from : (text : List ℕ) (x r : Reading) → IsSane x → reads text x ≡ Some r → IsSane r
sane_from [] x r h e = sane_at x r e h
sane_from (c ∷ text) x r h e = by_step (step c x) refl (λ (y : Reading). sane_from text y r) e
  where
    by_step : (o : Option Reading) → step c x ≡ o → ((y : Reading) → IsSane y → reads text y ≡ Some r → IsSane r)
        → option_and_then (reads text) o ≡ Some r → IsSane r
    by_step None is again g = no_some r g
    by_step (Some y) is again g = again y (sane_next c x y h is) g

pub sane_reads : (text : List ℕ) (r : Reading) → reads text start ≡ Some r → IsSane r
sane_reads text r e = sane_from text start r tt e

-- products
product_positive : (t : Tree) → 1 ≤ product_of t
product_positive nothing = omega arith
product_positive (one_of negated ranges) = omega arith
product_positive text_start = omega arith
product_positive text_end = omega arith
product_positive (word_boundary negated) = omega arith
product_positive (sequence a b) = let p = product_positive a in omega (arith, p)
product_positive (choice a b) = let p = product_positive a in omega (arith, p)
product_positive (repetition least most a) =
    times (product_of a) (count_of least most) (product_positive a) (omega arith)
  where
    times : (a b : ℕ) → 1 ≤ a → 1 ≤ b → 1 ≤ a * b
    times zero b p q = absurd (omega (arith, p))
    times (suc a) zero p q = absurd (omega (arith, q))
    times (suc a) (suc b) p q = omega arith
product_positive (lookahead negated a) = product_positive a

-- what holds of the state that is made
measured_at : (x s : Reading) → Some x ≡ Some s → IsMeasured x → IsMeasured s
measured_at x s e h = subst (λ (y : Reading). IsMeasured y) (same_Some x s e) h

-- products of a sequence, of one more alternative, and of a lookahead
joined_product : (p a x y z : ℕ) → a ≡ x → p ≡ max y z → max p a ≡ max (max y x) z
joined_product p a x y z e f = omega (arith, e, f)

one_product : (p x y z : ℕ) → z ≡ 1 → 1 ≤ x → p ≡ max x y → p ≡ max (max x z) y
one_product p x y z e le f = omega (arith, e, le, f)

bar_product : (p x y : ℕ) → 1 ≤ x → p ≡ max x y → p ≡ max 1 (max y x)
bar_product p x y le f = omega (arith, le, f)

ahead_product : (p q x y z v : ℕ) → p ≡ max x y → q ≡ max z v → max p q ≡ max (max z (max y x)) v
ahead_product p q x y z v e f = omega (arith, e, f)

turned : (p x y : ℕ) → p ≡ max x y → p ≡ max y x
turned p x y e = omega (arith, e)

max_within : (p q k : ℕ) → p ≤ k → q ≤ k → max p q ≤ k
max_within p q k e f = omega (arith, e, f)

-- a term after an atom
with_term_measured : (r : Reading) → MeasuredBase true r → MeasuredBase false (with_term r)
with_term_measured r h = (
  joined_product r.product r.atom_product (product_of (top r.trees)) (product_of (top (below r.trees)))
      (product_of (top (below (below r.trees)))) h.0 h.2.0,
  max_within r.product r.atom_product 100000 h.2.1 h.1,
  h.2.2,
)

settled_measured : (after_atom : Bool) (r : Reading) → MeasuredBase after_atom r
    → MeasuredBase false (settled after_atom r)
settled_measured true r h = with_term_measured r h
settled_measured false r h = h

-- an atom of one character
with_atom_measured : (t : Tree) (r : Reading) → product_of t ≡ 1 → MeasuredBase false r
    → MeasuredBase true (with_atom t r)
with_atom_measured t r one h = (sym one, omega arith, (h.0, h.1, h.2))

-- what stands at a place
asserted_measured : (t : Tree) (r : Reading) → product_of t ≡ 1 → MeasuredBase false r
    → MeasuredBase false (asserted t r)
asserted_measured t r one h = (
  one_product r.product (product_of (top r.trees)) (product_of (top (below r.trees))) (product_of t) one
      (product_positive (top r.trees)) h.0,
  h.1,
  h.2,
)

-- another alternative
bar_measured : (r : Reading) → MeasuredBase false r → MeasuredBase false (leaf nothing (chosen r))
bar_measured r h = (
  bar_product r.product (product_of (top r.trees)) (product_of (top (below r.trees)))
      (product_positive (top r.trees)) h.0,
  h.1,
  h.2,
)

opened_measured : (g : Open) (r : Reading) → MeasuredBase false r → MeasuredBase false (opened g r)
opened_measured g r h = (refl, omega arith, (h.0, h.1, h.2))

quantified_measured : (least : ℕ) (most : Option ℕ) (product : ℕ) (r : Reading)
    → product ≡ r.atom_product * count_of least most → product ≤ 100000 → MeasuredBase true r
    → MeasuredBase false (quantified least most (charged product r))
quantified_measured least most product r is le h =
    let count = count_of least most in
    let same : product ≡ product_of (top r.trees) * count = is ∙ ap (λ (k : ℕ). k * count) h.0 in (
      joined_product r.product product (product_of (top r.trees) * count) (product_of (top (below r.trees)))
          (product_of (top (below (below r.trees)))) same h.2.0,
      max_within r.product product 100000 h.2.1 le,
      h.2.2,
    )

closed_measured : (gs : List Open) (r s : Reading) → r.groups ≡ gs → MeasuredBase false r → closed_by gs r ≡ Some s
    → IsMeasured s
closed_measured [] r s g h e = no_some s e
closed_measured (Group ∷ gs) r s g h e =
    let lower = below (below r.trees) in
    let out : Outer (Group ∷ gs) r.products lower = subst (λ (k : List Open). Outer k r.products lower) g h.2 in
    measured_at (at Atom (chosen (record r {
      groups = gs;
      products = products_below r.products;
      product =
          top_product r.products;
      atom_product = r.product;
    }))) s e
    (turned r.product (product_of (top r.trees)) (product_of (top (below r.trees))) h.0, h.1, (out.0, out.1, out.2))
closed_measured (Ahead negated ∷ gs) r s g h e =
    let lower = below (below r.trees) in
    let out : Outer (Ahead negated ∷ gs) r.products lower = subst (λ (k : List Open). Outer k r.products lower) g h.2 in
    let x : Reading = at Term (joined (record r {
      groups = gs;
      products = products_below r.products;
      product =
          max r.product (top_product r.products);
      trees =
          lookahead negated (choice (top (below r.trees)) (top r.trees)) ∷ lower;
    })) in
    measured_at x s e (
      ahead_product r.product (top_product r.products) (product_of (top r.trees)) (product_of (top (below r.trees)))
          (product_of (top lower)) (product_of (top (below lower))) h.0 out.0,
      max_within r.product (top_product r.products) 100000 h.1 out.1,
      out.2,
    )

flushed_chars_measured : (cs : List ℕ) (r : Reading) → MeasuredBase true r → MeasuredBase true (flushed_chars cs r)
flushed_chars_measured [] r h = h
flushed_chars_measured (c ∷ cs) r h = flushed_chars_measured cs (with_atom (char c) (with_term r))
    (with_atom_measured (char c) (with_term r) refl (with_term_measured r h))

flushed_measured : (after_atom : Bool) (r : Reading) → MeasuredBase after_atom r
    → MeasuredBase true (flushed after_atom r)
flushed_measured after_atom r h =
    flushed_chars_measured r.braces (record (with_atom (char 123) (settled after_atom r)) { braces = [] })
    (with_atom_measured (char 123) (settled after_atom r) refl (settled_measured after_atom r h))

-- where a term may begin
term_measured : (c : ℕ) (r s : Reading) → MeasuredBase false r → term_begun c r ≡ Some s → IsMeasured s
term_measured c r s h e =
    let P : Type 0 = IsMeasured s in
    if_else (c == 94) _ _ s P e (λ y x. measured_at (asserted text_start r) s x (asserted_measured text_start r refl h))
    (λ n e2.
    if_else (c == 36) _ _ s P e2 (λ y x. measured_at (asserted text_end r) s x (asserted_measured text_end r refl h))
    (λ n e3.
    if_else (c == 124) _ _ s P e3 (λ y x. measured_at (at Term (leaf nothing (chosen r))) s x (bar_measured r h))
    (λ n e4.
    if_else (c == 41) _ _ s P e4 (λ y x. closed_measured r.groups r s refl h x) (λ n e5.
    if_else (c == 40) _ _ s P e5 (λ y x. measured_at (at Paren r) s x h) (λ n e6.
    if_else (c == 91) _ _ s P e6 (λ y x. measured_at (at ClassOpen (record r { negated = false; ranges = [] })) s x h)
    (λ n e7.
    if_else (c == 92) _ _ s P e7 (λ y x. measured_at (at Escape r) s x h) (λ n e8.
    if_else (c == 46) _ _ s P e8 (λ y x. measured_at (with_atom any r) s x (with_atom_measured any r refl h)) (λ n x.
    measured_at (with_atom (char c) r) s x (with_atom_measured (char c) r refl h)))))))))

marked_measured : (after_atom : Bool) (product least : ℕ) (most : Option ℕ) (r s : Reading)
    → product ≡ r.atom_product * count_of least most → (after_atom ≡ true → product ≤ 100000)
    → MeasuredBase after_atom r → marked after_atom product least most r ≡ Some s → IsMeasured s
marked_measured true product least most r s is le h e =
    measured_at (quantified least most (charged product r)) s e
    (quantified_measured least most product r is (le refl) h)
marked_measured false product least most r s is le h e = no_some s e

-- a quantifier that counts one
one_measured : (after_atom : Bool) (least : ℕ) (most : Option ℕ) (r s : Reading) → count_of least most ≡ 1
    → MeasuredBase after_atom r → marked after_atom r.atom_product least most r ≡ Some s → IsMeasured s
one_measured true least most r s one h e = marked_measured true r.atom_product least most r s
    (subst (λ (k : ℕ). r.atom_product ≡ r.atom_product * k) (sym one) (omega arith)) (λ t. h.1) h e
one_measured false least most r s one h e = no_some s e

lazy_measured : (after_atom may_be_lazy : Bool) (r s : Reading) → (may_be_lazy ≡ true → after_atom ≡ false)
    → MeasuredBase after_atom r → cond may_be_lazy (Some (at Term r)) (marked after_atom r.atom_product 0 (Some 1) r) ≡
    Some s → IsMeasured s
lazy_measured true true r s apart h e = absurd (false≢true (sym (apart refl)))
lazy_measured false true r s apart h e = measured_at (at Term r) s e h
lazy_measured after_atom false r s apart h e = one_measured after_atom 0 (Some 1) r s refl h e

braces_measured : (after_atom : Bool) (braces : List ℕ) (r : Reading) → MeasuredBase after_atom r
    → IsMeasured (at (Braces after_atom) (record r { braces = braces }))
braces_measured true braces r h = h
braces_measured false braces r h = h

plain_measured : (after_atom may_be_lazy : Bool) (c : ℕ) (r s : Reading) → (may_be_lazy ≡ true → after_atom ≡ false)
    → MeasuredBase after_atom r → plain after_atom may_be_lazy c r ≡ Some s → IsMeasured s
plain_measured after_atom may_be_lazy c r s apart h e =
    let P : Type 0 = IsMeasured s in
    if_else (c == 42) _ _ s P e (λ y x. one_measured after_atom 0 None r s refl h x) (λ n e2.
    if_else (c == 43) _ _ s P e2 (λ y x. one_measured after_atom 1 None r s refl h x) (λ n e3.
    if_else (c == 63) _ _ s P e3 (λ y x. lazy_measured after_atom may_be_lazy r s apart h x) (λ n e4.
    if_else (c == 123) _ _ s P e4 (λ y x. measured_at (at (Braces after_atom) (record r { braces = [] })) s x
    (braces_measured after_atom [] r h)) (λ n x.
    term_measured c (settled after_atom r) s (settled_measured after_atom r h) x))))

-- where no quantifier is made lazy
base_measured : (after_atom : Bool) (c : ℕ) (r s : Reading) → MeasuredBase after_atom r
    → plain after_atom false c r ≡ Some s → IsMeasured s
base_measured after_atom c r s h e = plain_measured after_atom false c r s (λ y. absurd (false≢true y)) h e

in_braces_measured : (after_atom : Bool) (c : ℕ) (r s : Reading) → r.mode ≡ Braces after_atom
    → MeasuredBase after_atom r → (c == 125) && overcounts (bounds_of r.braces) after_atom r ≡ false
    → in_braces after_atom c r ≡ Some s → IsMeasured s
in_braces_measured after_atom c r s m h within e =
    let P : Type 0 = IsMeasured s in
    if_else (is_inner r.braces c) _ _ s P e (λ y x. measured_at (record r { braces = r.braces ++ c ∷ [] }) s x goes_on)
    (λ out e2.
    if_else (c == 125) _ _ s P e2 (λ y x. at_end (bounds_of r.braces)
    (subst (λ (b : Bool). b && overcounts (bounds_of r.braces) after_atom r ≡ false) y within) x) (λ n x. broken x))
  where
    same_base : (after : Bool) → MeasuredBase after r → MeasuredBase after (record r { braces = r.braces ++ c ∷ [] })
    same_base true b = b
    same_base false b = b

    goes_on : MeasuredBase (after_atom_in r.mode) (record r { braces = r.braces ++ c ∷ [] })
    goes_on = subst (λ (k : Mode). MeasuredBase (after_atom_in k) (record r { braces = r.braces ++ c ∷ [] })) (sym m)
        (same_base after_atom h)

    broken : plain true false c (flushed after_atom r) ≡ Some s → IsMeasured s
    broken x = base_measured true c (flushed after_atom r) s (flushed_measured after_atom r h) x

    counted : (above after over : Bool) → above || after && over ≡ false → after ≡ true → over ≡ false
    counted true after over w y = absurd (false≢true (sym w))
    counted false true over w y = w
    counted false false over w y = absurd (false≢true y)

    at_end : (o : Option (ℕ × Option ℕ)) → overcounts o after_atom r ≡ false → in_braces_end o after_atom c r ≡ Some s
        → IsMeasured s
    at_end None w x = broken x
    at_end (Some bounds) w x =
        let product = r.atom_product * count_of bounds.0 bounds.1 in
        marked_measured after_atom product bounds.0 bounds.1 r s refl
        (λ y. ltb-false 100000 product (counted (is_above_limit bounds.0 bounds.1) after_atom
        (nat_lt 100000 product) w y)) h x

-- hexadecimal digits
hex_to_measured : (o : Option ℕ) (value left : ℕ) (r s : Reading) → MeasuredBase false r
    → hex_to o value left r ≡ Some s → IsMeasured s
hex_to_measured None value left r s h e = no_some s e
hex_to_measured (Some greatest) value left r s h e =
    if_else (left == 0) _ _ s (IsMeasured s) e (λ y x. measured_at (with_atom (char greatest) r) s x
    (with_atom_measured (char greatest) r refl h)) (λ n x. measured_at (at (modes.Hex value left) r) s x h)

hex_measured : (o : Option ℕ) (value left : ℕ) (r s : Reading) → MeasuredBase false r → hex_by o value left r ≡ Some s
    → IsMeasured s
hex_measured None value left r s h e = no_some s e
hex_measured (Some d) value left r s h e =
    if_else (nat_lt 0xfff value || (left == 0)) _ _ s (IsMeasured s) e (λ y x. no_some s x)
    (λ n x. hex_to_measured (greatest_from (value * 16 + d) (left - 1)) (value * 16 + d) (left - 1) r s h x)

-- an escape
char_measured : (o : Option ℕ) (r s : Reading) → MeasuredBase false r → with_char o r ≡ Some s → IsMeasured s
char_measured None r s h e = no_some s e
char_measured (Some v) r s h e = measured_at (with_atom (char v) r) s e (with_atom_measured (char v) r refl h)

escape_measured : (o : Option (List CharRange)) (c : ℕ) (r s : Reading) → MeasuredBase false r → with_set o c r ≡ Some s
    → IsMeasured s
escape_measured (Some ranges) c r s h e =
    measured_at (with_atom (one_of false ranges) r) s e (with_atom_measured (one_of false ranges) r refl h)
escape_measured None c r s h e =
    let P : Type 0 = IsMeasured s in
    if_else (c == 98) _ _ s P e (λ y x. measured_at (asserted (word_boundary false) r) s x
    (asserted_measured (word_boundary false) r refl h)) (λ n e2.
    if_else (c == 66) _ _ s P e2 (λ y x. measured_at (asserted (word_boundary true) r) s x
    (asserted_measured (word_boundary true) r refl h)) (λ n e3.
    if_else (c == 120) _ _ s P e3 (λ y x. measured_at (at (modes.Hex 0 2) r) s x h) (λ n e4.
    if_else (c == 117) _ _ s P e4 (λ y x. measured_at (at (modes.Hex 0 4) r) s x h) (λ n e5.
    if_else (c == 48) _ _ s P e5 (λ y x. measured_at (at Zero (with_atom (char 0) r)) s x
    (with_atom_measured (char 0) r refl h)) (λ n x. char_measured (escaped c) r s h x)))))

-- classes
class_end_measured : (r s : Reading) → MeasuredBase false r → Some (class_end r) ≡ Some s → IsMeasured s
class_end_measured r s h e = measured_at (class_end r) s e (with_atom_measured (one_of r.negated r.ranges) r refl h)

item_measured : (c : ℕ) (r s : Reading) → MeasuredBase false r → item c r ≡ Some s → IsMeasured s
item_measured c r s h e =
    if_else (c == 93) _ _ s (IsMeasured s) e (λ y x. class_end_measured r s h x) (λ n e2.
    if_else (c == 92) _ _ s (IsMeasured s) e2 (λ y x. measured_at (at (modes.ClassEscape None) r) s x h)
    (λ n x. measured_at (at (modes.ClassChar c) r) s x h))

next_item_measured : (c : ℕ) (r s : Reading) → MeasuredBase false r → next_item c r ≡ Some s → IsMeasured s
next_item_measured c r s h e = if_else (c == 45) _ _ s (IsMeasured s) e (λ y x. measured_at (at ClassNextDash r) s x h)
    (λ n x. item_measured c r s h x)

after_char_measured : (first c : ℕ) (r s : Reading) → MeasuredBase false r → after_char first c r ≡ Some s
    → IsMeasured s
after_char_measured first c r s h e = if_else (c == 45) _ _ s (IsMeasured s) e
    (λ y x. measured_at (at (modes.ClassDash first) r) s x h) (λ n x. item_measured c (ranged first first r) s h x)

class_char_measured : (first : Option ℕ) (c : ℕ) (r s : Reading) → MeasuredBase false r → class_char first c r ≡ Some s
    → IsMeasured s
class_char_measured None c r s h e = measured_at (at (modes.ClassChar c) r) s e h
class_char_measured (Some first) c r s h e = if_else (nat_le first c) _ _ s (IsMeasured s) e
    (λ y x. measured_at (at ClassNext (ranged first c r)) s x h) (λ n x. no_some s x)

range_end_measured : (first c : ℕ) (r s : Reading) → MeasuredBase false r → range_end first c r ≡ Some s → IsMeasured s
range_end_measured first c r s h e =
    let P : Type 0 = IsMeasured s in
    if_else (c == 92) _ _ s P e (λ y x. if_else (nat_le first 0xffff) _ _ s P x
    (λ z g. measured_at (at (modes.ClassEscape (Some first)) r) s g h) (λ z g. no_some s g)) (λ n e2.
    if_else (c == 45) _ _ s P e2 (λ y x. if_else (nat_le first 45) _ _ s P x
    (λ z g. measured_at (at ClassNext (ranged first 45 r)) s g h) (λ z g. no_some s g))
    (λ n x. class_char_measured (Some first) c r s h x))

after_dash_measured : (first c : ℕ) (r s : Reading) → MeasuredBase false r → after_dash first c r ≡ Some s
    → IsMeasured s
after_dash_measured first c r s h e =
    if_else (c == 93) _ _ s (IsMeasured s) e (λ y x. class_end_measured (ranged 45 45 (ranged first first r)) s h x)
    (λ n x. range_end_measured first c r s h x)

next_dash_measured : (c : ℕ) (r s : Reading) → MeasuredBase false r → next_dash c r ≡ Some s → IsMeasured s
next_dash_measured c r s h e =
    if_else (c == 93) _ _ s (IsMeasured s) e (λ y x. class_end_measured (ranged 45 45 r) s h x) (λ n e2.
    if_else (c == 45) _ _ s (IsMeasured s) e2 (λ y x. measured_at (at ClassNextDashes r) s x h) (λ n x. no_some s x))

next_dashes_measured : (c : ℕ) (r s : Reading) → MeasuredBase false r → next_dashes c r ≡ Some s → IsMeasured s
next_dashes_measured c r s h e =
    if_else (c == 93) _ _ s (IsMeasured s) e (λ y x. no_some s x) (λ n x. range_end_measured 45 c r s h x)

class_zero_measured : (first : Option ℕ) (r s : Reading) → MeasuredBase false r → class_zero first r ≡ Some s
    → IsMeasured s
class_zero_measured None r s h e = measured_at (at (modes.ClassZero false) r) s e h
class_zero_measured (Some first) r s h e = if_else (first == 0) _ _ s (IsMeasured s) e
    (λ y x. measured_at (at (modes.ClassZero true) (ranged 0 0 r)) s x h) (λ n x. no_some s x)

class_char_if_measured : (first o : Option ℕ) (r s : Reading) → MeasuredBase false r → class_char_if first o r ≡ Some s
    → IsMeasured s
class_char_if_measured first None r s h e = no_some s e
class_char_if_measured first (Some v) r s h e = class_char_measured first v r s h e

class_escape_measured : (o : Option (List CharRange)) (first : Option ℕ) (c : ℕ) (r s : Reading) → MeasuredBase false r
    → class_set o first c r ≡ Some s → IsMeasured s
class_escape_measured (Some ranges) None c r s h e = measured_at (with_ranges ranges r) s e h
class_escape_measured (Some ranges) (Some first) c r s h e = no_some s e
class_escape_measured None first c r s h e =
    let P : Type 0 = IsMeasured s in
    if_else (c == 98) _ _ s P e (λ y x. class_char_measured first 8 r s h x) (λ n e2.
    if_else (c == 120) _ _ s P e2 (λ y x. if_else (can_end first 0xff) _ _ s P x
    (λ z g. measured_at (at (modes.ClassHex first 0 2) r) s g h) (λ z g. no_some s g)) (λ n e3.
    if_else (c == 117) _ _ s P e3 (λ y x. if_else (can_end first 0xffff) _ _ s P x
    (λ z g. measured_at (at (modes.ClassHex first 0 4) r) s g h) (λ z g. no_some s g)) (λ n e4.
    if_else (c == 48) _ _ s P e4 (λ y x. class_zero_measured first r s h x)
    (λ n x. class_char_if_measured first (escaped c) r s h x))))

class_hex_to_measured : (o first : Option ℕ) (value left : ℕ) (r s : Reading) → MeasuredBase false r
    → class_hex_to o first value left r ≡ Some s → IsMeasured s
class_hex_to_measured None first value left r s h e = no_some s e
class_hex_to_measured (Some greatest) first value left r s h e =
    if_else (can_end first greatest) _ _ s (IsMeasured s) e
    (λ ok x. if_else (left == 0) _ _ s (IsMeasured s) x (λ y g. class_char_measured first greatest r s h g)
    (λ n g. measured_at (at (modes.ClassHex first value left) r) s g h))
    (λ ok x. no_some s x)

class_hex_measured : (o first : Option ℕ) (value left : ℕ) (r s : Reading) → MeasuredBase false r
    → class_hex_by o first value left r ≡ Some s → IsMeasured s
class_hex_measured None first value left r s h e = no_some s e
class_hex_measured (Some d) first value left r s h e =
    if_else (nat_lt 0xfff value || (left == 0)) _ _ s (IsMeasured s) e (λ y x. no_some s x)
    (λ n x. class_hex_to_measured (greatest_from (value * 16 + d) (left - 1)) first (value * 16 + d) (left - 1) r s
    h x)

-- each character
step_measured : (m : Mode) (c : ℕ) (r s : Reading) → r.mode ≡ m → MeasuredBase (after_atom_in m) r
    → overcounts_in m c r ≡ false → step_in m c r ≡ Some s → IsMeasured s
step_measured Term c r s m h within e = base_measured false c r s h e
step_measured Atom c r s m h within e = base_measured true c r s h e
step_measured Quantified c r s m h within e = plain_measured false true c r s (λ y. refl) h e
step_measured Zero c r s m h within e =
    if_else (is_ascii_digit c) _ _ s (IsMeasured s) e (λ y x. no_some s x) (λ n x. base_measured true c r s h x)
step_measured (Braces after_atom) c r s m h within e = in_braces_measured after_atom c r s m h within e
step_measured Escape c r s m h within e = escape_measured (set_of c) c r s h e
step_measured (modes.Hex value left) c r s m h within e = hex_measured (hex_value c) value left r s h e
step_measured Paren c r s m h within e =
    if_else (c == 63) _ _ s (IsMeasured s) e (λ y x. measured_at (at ParenQuestion r) s x h)
    (λ n x. base_measured false c (opened Group r) s (opened_measured Group r h) x)
step_measured ParenQuestion c r s m h within e =
    if_else (c == 58) _ _ s (IsMeasured s) e (λ y x. measured_at (opened Group r) s x (opened_measured Group r h))
    (λ n e2.
    if_else (c == 61) _ _ s (IsMeasured s) e2 (λ y x. measured_at (opened (Ahead false) r) s x
    (opened_measured (Ahead false) r h)) (λ n e3.
    if_else (c == 33) _ _ s (IsMeasured s) e3 (λ y x. measured_at (opened (Ahead true) r) s x
    (opened_measured (Ahead true) r h)) (λ n x. no_some s x)))
step_measured ClassOpen c r s m h within e =
    if_else (c == 94) _ _ s (IsMeasured s) e (λ y x. measured_at (at ClassFirst (record r { negated = true })) s x h)
    (λ n x. item_measured c r s h x)
step_measured ClassFirst c r s m h within e = item_measured c r s h e
step_measured ClassNext c r s m h within e = next_item_measured c r s h e
step_measured ClassNextDash c r s m h within e = next_dash_measured c r s h e
step_measured ClassNextDashes c r s m h within e = next_dashes_measured c r s h e
step_measured (modes.ClassChar first) c r s m h within e = after_char_measured first c r s h e
step_measured (modes.ClassDash first) c r s m h within e = after_dash_measured first c r s h e
step_measured (modes.ClassZero true) c r s m h within e =
    if_else (is_ascii_digit c) _ _ s (IsMeasured s) e (λ y x. no_some s x) (λ n x. next_item_measured c r s h x)
step_measured (modes.ClassZero false) c r s m h within e =
    if_else (is_ascii_digit c) _ _ s (IsMeasured s) e (λ y x. no_some s x) (λ n x. after_char_measured 0 c r s h x)
step_measured (modes.ClassEscape first) c r s m h within e = class_escape_measured (set_of c) first c r s h e
step_measured (modes.ClassHex first value left) c r s m h within e =
    class_hex_measured (hex_value c) first value left r s h e

measured_next : (c : ℕ) (r s : Reading) → IsMeasured r → overcounts_at c r ≡ false → step c r ≡ Some s → IsMeasured s
measured_next c r s h within e = step_measured r.mode c r s refl h within e

-- all that a text leads to, where no quantifier counts too much
pub measured_reads : (text : List ℕ) (n : ℕ) (r : Reading) → n ≤ length text → PassesBefore text n
    → reads (take n text) start ≡ Some r → IsMeasured r
measured_reads text zero r le passes e = measured_at start r e (refl, omega arith, tt)
measured_reads text (suc n) r le passes e =
    let one : suc n ≡ n + 1 = omega arith in
    let s = reads_last text n r (omega (arith, le)) (subst (λ (k : ℕ). reads (take k text) start ≡ Some r) one e) in
    let before = measured_reads text n s.0 (omega (arith, le)) (passes_less text (suc n) n passes (omega arith)) s.1 in
    measured_next (get_or text n 0) s.0 r before (passes.each n (omega arith) s.0 s.1).2 s.2
