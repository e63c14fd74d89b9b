-- What is read as a pattern is one, with the tree that was read.
use Rattle.std.proofs.Common.{
  ◌≡◌,
  ℕ,
  zero,
  suc,
  ◌+◌,
  ◌-◌,
  ◌*◌,
  ◌≤◌,
  Bool,
  true,
  false,
  cond,
  List,
  [],
  ◌∷◌,
  ◌++◌,
  inl,
  inr,
  Option,
  Some,
  None,
  refl,
  sym,
  ap,
  subst,
  ◌∙◌,
  arith,
}
use Rattle.std.specs.Prelude.{◌==◌, ◌&&◌, ◌||◌, ◌⊎◌, max, nat_le, nat_lt, option_and_then}
use Rattle.std.proofs.lemmas.List.{append_assoc}
use Rattle.std.proofs.lemmas.Option.{same_Some}
use Rattle.std.proofs.lemmas.Bool.{false≢true, eqb-true, eqb-false, leb-true}
use Rattle.es_pattern.specs.Tree.{
  Tree,
  CharRange,
  nothing,
  one_of,
  text_start,
  text_end,
  word_boundary,
  sequence,
  choice,
  repetition,
  lookahead,
}
use Rattle.es_pattern.specs.Pieces.{top, below}
use Rattle.es_pattern.specs.Escapes.{range, is_ascii_digit, set_of, escaped, hex_value, is_surrogate}
use Rattle.es_pattern.specs.Grammar.{
  never,
  char,
  any,
  Mark,
  BeginsBraces,
  BeginsDigit,
  BeginsCaret,
  ClassChar,
  Before,
  FirstChar,
  RangeEnd,
  Items,
  alternatives,
  term,
  atom,
  Reads,
  IsPattern,
  is_plain,
  Hex,
}
use Rattle.es_pattern.specs.Grammar.{
  star_mark,
  plus_mark,
  question_mark,
  braces_mark,
  named,
  zero_char,
  two_digits,
  four_digits,
  itself,
  class_escape,
  backspace,
  bracket,
  character,
  range_or_set,
  other_char,
  first_dash,
  start_char,
  start_dash,
  end_char,
  end_dash,
  no_item,
  last_dash,
  one_char,
  one_set,
  from_to,
}
use Rattle.es_pattern.specs.Grammar.{
  ends,
  bar,
  followed,
  at_start,
  at_end,
  at_boundary,
  at_no_boundary,
  ahead,
  not_ahead,
  once,
  greedy,
  lazy,
  dot,
  group,
  bare_group,
  class,
  negated_class,
  set_escape,
  char_escape,
  ordinary,
}
use Rattle.es_pattern.specs.declared.mode.Open.{Open}
use Rattle.es_pattern.specs.declared.mode.Open.TheVariants.{Group, Ahead}
use Rattle.es_pattern.specs.declared.mode.Mode.{Mode}
use Rattle.es_pattern.specs.declared.mode.Mode.TheVariants.{
  Term,
  Atom,
  Quantified,
  Zero,
  Braces,
  Escape,
  Paren,
  ParenQuestion,
  ClassOpen,
  ClassFirst,
  ClassNext,
  ClassNextDash,
  ClassNextDashes,
}
use Rattle.es_pattern.specs.declared.mode.Mode.TheVariants as modes
use Rattle.es_pattern.specs.Reading.{
  Reading,
  charged,
  with_term,
  top_product,
  products_below,
  closed_by,
  quantified,
  marked,
  term_begun,
  plain,
  with_set,
  with_char,
  asserted,
  joined,
  settled,
  with_atom,
  opened,
  at,
  leaf,
  chosen,
  greatest_from,
  scalar,
  hex_to,
  hex_by,
  flushed,
  flushed_chars,
  bounds_of,
  in_braces_end,
  is_inner,
  may_be_comma,
  in_braces,
  ranged,
  class_end,
  item,
  next_item,
  after_char,
  class_char,
  range_end,
  after_dash,
  next_dash,
  class_char_if,
  can_end,
  class_zero,
  with_ranges,
  class_set,
  class_hex_to,
  class_hex_by,
  step_in,
  step,
  ended,
  finished_in,
  finished,
  start,
  reads,
  accepted,
}
use Rattle.es_pattern.specs.Limits.{count_of}
use Rattle.es_pattern.proofs.BracesRead.{AllInner, inner-append, bounds_sound, breaks, breaks_at_end}
use Rattle.es_pattern.proofs.NumberTests.{no_some, below_apart, above_apart}
use Rattle.es_pattern.proofs.Digits.{digit_within}

-- a test's two ways
pub if_else : (b : Bool) (x y : Option Reading) (s : Reading) (P : Type 0) → cond b x y ≡ Some s
    → (b ≡ true → x ≡ Some s → P) → (b ≡ false → y ≡ Some s → P) → P
if_else true x y s P e yes_ no_ = yes_ refl e
if_else false x y s P e yes_ no_ = no_ refl e

-- what a quantifier, greedy or lazy, or none, makes of an atom
pub data Suffix : Tree → Tree → List ℕ → List ℕ → Type 0 where
  no_suffix : {a : Tree} {rest : List ℕ} → Suffix a a rest rest
  greedy_suffix : {a : Tree} {least : ℕ} {most : Option ℕ} {text rest : List ℕ} → Mark least most text rest
      → Suffix a (repetition least most a) text rest
  lazy_suffix : {a : Tree} {least : ℕ} {most : Option ℕ} {text rest : List ℕ} → Mark least most text (63 ∷ rest)
      → Suffix a (repetition least most a) text rest

suffix_term : {a t : Tree} {text mid rest : List ℕ} → Reads (atom a) text mid → Suffix a t mid rest
    → Reads (term t) text rest
suffix_term r no_suffix = once r
suffix_term r (greedy_suffix m) = greedy r m
suffix_term r (lazy_suffix m) = lazy r m

-- after a group's alternatives, which have this tree, the rest of the text ends the open groups and makes the whole's
-- tree
abbrev pub Closes : List Open → List Tree → List ℕ → Tree → Tree → Type 0
Closes [] ts rest g t = (rest ≡ []) × (g ≡ t)
Closes (Group ∷ gs) ts rest g t =
    (mid : List ℕ) × (rest ≡ 41 ∷ mid) × ((u : Tree) × (after : List ℕ) × Suffix g u mid after
    × ((out : List ℕ) × (h : Tree) × Reads (alternatives (top (below ts)) (sequence (top ts) u) h) after out
    × Closes gs (below (below ts)) out h t))
Closes (Ahead negated ∷ gs) ts rest g t =
    (mid : List ℕ) × (rest ≡ 41 ∷ mid) × ((out : List ℕ) × (h : Tree)
    × Reads (alternatives (top (below ts)) (sequence (top ts) (lookahead negated g)) h) mid out
    × Closes gs (below (below ts)) out h t)

-- the rest of the text goes on with terms; after an atom it may go on with a quantifier
abbrev pub InTerm : List Tree → List Open → List ℕ → Tree → Type 0
InTerm ts gs rest t = (out : List ℕ) × (h : Tree) × Reads (alternatives (top (below ts)) (top ts) h) rest out
    × Closes gs (below (below ts)) out h t

abbrev pub AfterAtom : Tree → List Tree → List Open → List ℕ → Tree → Type 0
AfterAtom a ts gs rest t =
    (u : Tree) × (after : List ℕ) × Suffix a u rest after × InTerm (sequence (top ts) u ∷ below ts) gs after t

-- what was read of a class's character
pub data After : ℕ → List CharRange → List ℕ → List ℕ → List CharRange → Type 0 where
  after_one : {c : ℕ} {ranges all : List CharRange} {text rest : List ℕ}
      → Items character (ranges ++ range c c ∷ []) text rest all → After c ranges text rest all
  after_range : {c d : ℕ} {ranges all : List CharRange} {mid after rest : List ℕ} → RangeEnd d mid after → c ≤ d
      → Items range_or_set (ranges ++ range c d ∷ []) after rest all → After c ranges (45 ∷ mid) rest all

first_after : {before : Before} {c : ℕ} {ranges all : List CharRange} {text mid rest : List ℕ}
    → FirstChar before c text mid → After c ranges mid rest all → Items before ranges text rest all
first_after r (after_one i) = one_char r i
first_after r (after_range d le i) = from_to (start_char r) d le i

pub data EscapeItem : List CharRange → List ℕ → List ℕ → List CharRange → Type 0 where
  escape_set : {letter : ℕ} {ranges more all : List CharRange} {text rest : List ℕ} → set_of letter ≡ Some more
      → Items range_or_set (ranges ++ more) text rest all → EscapeItem ranges (letter ∷ text) rest all
  escape_char : {c : ℕ} {ranges all : List CharRange} {text mid rest : List ℕ} → ClassChar c (92 ∷ text) mid
      → After c ranges mid rest all → EscapeItem ranges text rest all

escape_item : {before : Before} {ranges all : List CharRange} {text rest : List ℕ} → EscapeItem ranges text rest all
    → Items before ranges (92 ∷ text) rest all
escape_item (escape_set e i) = one_set e i
escape_item (escape_char r a) = first_after (other_char r) a

-- after a character that ends a range or begins an item
abbrev pub Ended : Option ℕ → ℕ → List CharRange → List ℕ → List ℕ → List CharRange → Type 0
Ended None d ranges text rest all = After d ranges text rest all
Ended (Some c) d ranges text rest all = (c ≤ d) × Items range_or_set (ranges ++ range c d ∷ []) text rest all

module _ (r : Reading) (t : Tree) where
  -- after the items of a class
  abbrev pub AfterClass : List CharRange → List ℕ → Type 0
  AfterClass all rest = AfterAtom (one_of r.negated all) r.trees r.groups rest t

abbrev pub Base : Bool → Reading → List ℕ → Tree → Type 0
Base true r rest t = AfterAtom (top r.trees) (below r.trees) r.groups rest t
Base false r rest t = InTerm r.trees r.groups rest t

abbrev pub InClass : Before → Reading → List ℕ → Tree → Type 0
InClass before r rest t =
    (all : List CharRange) × (mid : List ℕ) × Items before r.ranges rest mid all × AfterClass r t all mid

abbrev pub AfterChar : ℕ → Reading → List ℕ → Tree → Type 0
AfterChar c r rest t = (all : List CharRange) × (mid : List ℕ) × After c r.ranges rest mid all × AfterClass r t all mid

-- what is left of a class, after a character of it that ends a range or begins an item
abbrev pub AfterEnd : Option ℕ → ℕ → Reading → List ℕ → Tree → Type 0
AfterEnd first d r rest t =
    (all : List CharRange) × (mid : List ℕ) × Ended first d r.ranges rest mid all × AfterClass r t all mid

-- what is left of a class, from the end of a range on
abbrev pub InRange : ℕ → Reading → List ℕ → Tree → Type 0
InRange c r rest t = (all : List CharRange) × (mid : List ℕ) × (d : ℕ) × (after : List ℕ) × RangeEnd d rest after
    × (c ≤ d) × Items range_or_set (r.ranges ++ range c d ∷ []) after mid all × AfterClass r t all mid

abbrev pub InEscape : Option ℕ → Reading → List ℕ → Tree → Type 0
InEscape None r rest t =
    (all : List CharRange) × (mid : List ℕ) × EscapeItem r.ranges rest mid all × AfterClass r t all mid
InEscape (Some c) r rest t = (all : List CharRange) × (mid : List ℕ) × (d : ℕ) × (after : List ℕ)
    × ClassChar d (92 ∷ rest) after × (c ≤ d) × Items range_or_set (r.ranges ++ range c d ∷ []) after mid all
    × AfterClass r t all mid

-- the rest of a text completes what was read, to a pattern of this tree
abbrev pub CompletesIn : Mode → Reading → List ℕ → Tree → Type 0
CompletesIn Term r rest t = InTerm r.trees r.groups rest t
CompletesIn Atom r rest t = AfterAtom (top r.trees) (below r.trees) r.groups rest t
CompletesIn Quantified r rest t =
    InTerm r.trees r.groups rest t ⊎ ((w : List ℕ) × (rest ≡ 63 ∷ w) × InTerm r.trees r.groups w t)
CompletesIn Zero r rest t = (BeginsDigit rest → ⊥) × AfterAtom (top r.trees) (below r.trees) r.groups rest t
CompletesIn (Braces after_atom) r rest t = AllInner r.braces → Base after_atom r (123 ∷ (r.braces ++ rest)) t
CompletesIn Escape r rest t = InTerm r.trees r.groups (92 ∷ rest) t
CompletesIn (modes.Hex value left) r rest t = (c : ℕ) × (mid : List ℕ) × Hex left value rest mid c
    × (is_surrogate c ≡ false) × AfterAtom (char c) r.trees r.groups mid t
CompletesIn Paren r rest t = InTerm r.trees r.groups (40 ∷ rest) t
CompletesIn ParenQuestion r rest t = InTerm r.trees r.groups (40 ∷ 63 ∷ rest) t
CompletesIn ClassOpen r rest t =
    ((BeginsCaret rest → ⊥) × InClass bracket r rest t)
    ⊎ ((w : List ℕ) × (rest ≡ 94 ∷ w) × InClass bracket (record r { negated = true }) w t)
CompletesIn ClassFirst r rest t = InClass bracket r rest t
CompletesIn ClassNext r rest t = InClass range_or_set r rest t
CompletesIn ClassNextDash r rest t = InClass range_or_set r (45 ∷ rest) t
CompletesIn ClassNextDashes r rest t = InRange 45 r rest t
CompletesIn (modes.ClassChar c) r rest t = AfterChar c r rest t
CompletesIn (modes.ClassDash c) r rest t = AfterChar c r (45 ∷ rest) t
CompletesIn (modes.ClassZero true) r rest t = (BeginsDigit rest → ⊥) × InClass range_or_set r rest t
CompletesIn (modes.ClassZero false) r rest t = (BeginsDigit rest → ⊥) × AfterChar 0 r rest t
CompletesIn (modes.ClassEscape first) r rest t = InEscape first r rest t
CompletesIn (modes.ClassHex first value left) r rest t =
    (all : List CharRange) × (mid : List ℕ) × (d : ℕ) × (after : List ℕ) × Hex left value rest after d
    × (is_surrogate d ≡ false) × Ended first d r.ranges after mid all × AfterClass r t all mid

abbrev pub Completes : Reading → List ℕ → Tree → Type 0
Completes r rest t = CompletesIn r.mode r rest t

-- the machine goes on, to what the rest of the text completes
abbrev pub Taken : Option Reading → List ℕ → Tree → Type 0
Taken o w t = (s : Reading) × (o ≡ Some s) × Completes s w t

-- what is completed from the new reading on
pub completes_at : (x s : Reading) (w : List ℕ) (t : Tree) → Some x ≡ Some s → Completes s w t → Completes x w t
completes_at x s w t e h = subst (λ (y : Reading). Completes y w t) (sym (same_Some x s e)) h

module _ (ts : List Tree) (gs : List Open) (t : Tree) where
  pub term_next : (u : Tree) (text mid : List ℕ) → Reads (term u) text mid
      → InTerm (sequence (top ts) u ∷ below ts) gs mid t → InTerm ts gs text t
  term_next u text mid r i = (i.0, i.1, followed r i.2, i.3)

  pub atom_next : (a : Tree) (text mid : List ℕ) → Reads (atom a) text mid → AfterAtom a ts gs mid t
      → InTerm ts gs text t
  atom_next a text mid r h = term_next h.0 text h.1 (suffix_term r h.2) h.3

  pub unsuffixed : (a : Tree) (rest : List ℕ) → InTerm (sequence (top ts) a ∷ below ts) gs rest t
      → AfterAtom a ts gs rest t
  unsuffixed a rest i = (a, rest, no_suffix, i)

  -- at a given character
  pub term_at : (c k : ℕ) (w : List ℕ) → c == k ≡ true → InTerm ts gs (k ∷ w) t → InTerm ts gs (c ∷ w) t
  term_at c k w e i = subst (λ (d : ℕ). InTerm ts gs (d ∷ w) t) (sym (eqb-true c k e)) i

  pub opened_next : (text w : List ℕ) → ((g : Tree) (rest : List ℕ) → Reads (alternatives never nothing g) w (41 ∷ rest)
      → Reads (atom g) text rest) → InTerm (nothing ∷ never ∷ ts) (Group ∷ gs) w t → InTerm ts gs text t
  opened_next text w build i =
      let c = i.3 in
      let body = subst (λ (o : List ℕ). Reads (alternatives never nothing i.1) w o) c.1 i.2 in
      atom_next i.1 text c.0 (build i.1 c.0 body) c.2

  pub ahead_next : (negated : Bool) (text w : List ℕ)
      → ((g : Tree) (rest : List ℕ) → Reads (alternatives never nothing g) w (41 ∷ rest)
      → Reads (term (lookahead negated g)) text rest) → InTerm (nothing ∷ never ∷ ts) (Ahead negated ∷ gs) w t
      → InTerm ts gs text t
  ahead_next negated text w build i =
      let c = i.3 in
      let body = subst (λ (o : List ℕ). Reads (alternatives never nothing i.1) w o) c.1 i.2 in
      term_next (lookahead negated i.1) text c.0 (build i.1 c.0 body) c.2

-- the end of a group
closed_next : (gs : List Open) (r s : Reading) (w : List ℕ) (t : Tree) → r.groups ≡ gs → closed_by gs r ≡ Some s
    → Completes s w t → InTerm r.trees gs (41 ∷ w) t
closed_next [] r s w t g e h = no_some s e
closed_next (Group ∷ gs) r s w t g e h =
    let i = completes_at (at Atom (chosen (record r {
      groups = gs;
      products = products_below r.products;
      product =
          top_product r.products;
      atom_product = r.product;
    }))) s w t e h in
    (41 ∷ w, choice (top (below r.trees)) (top r.trees), ends, (w, refl, i))
closed_next (Ahead negated ∷ gs) r s w t g e h =
    let lower = below (below r.trees) in
    let x : Reading = at Term (joined (record r {
      groups = gs;
      products = products_below r.products;
      product =
          max r.product (top_product r.products);
      trees =
          lookahead negated (choice (top (below r.trees)) (top r.trees)) ∷ lower;
    })) in
    let i = completes_at x s w t e h in
    (41 ∷ w, choice (top (below r.trees)) (top r.trees), ends, (w, refl, i))

all_false : (c : ℕ) → c == 94 ≡ false → c == 36 ≡ false → c == 92 ≡ false → c == 46 ≡ false → c == 42 ≡ false
    → c == 43 ≡ false → c == 63 ≡ false → c == 40 ≡ false → c == 41 ≡ false → c == 91 ≡ false → c == 124 ≡ false
    → is_plain c ≡ true
all_false c a b d e f g h i j k l = rw (a, b, d, e, f, g, h, i, j, k, l)

pub no_braces : (c : ℕ) (w : List ℕ) → (c ≡ 123 → ⊥) → BeginsBraces (c ∷ w) → ⊥
no_braces c w apart h = apart (cc (h.5))

-- a character where a term may begin, that is no quantifier and no `{`
term_step : (c : ℕ) (r s : Reading) (w : List ℕ) (t : Tree) → c == 42 ≡ false → c == 43 ≡ false → c == 63 ≡ false
    → c == 123 ≡ false → term_begun c r ≡ Some s → Completes s w t → InTerm r.trees r.groups (c ∷ w) t
term_step c r s w t n42 n43 n63 n123 e h =
    let P : Type 0 = InTerm r.trees r.groups (c ∷ w) t in
    let ts = r.trees in
    let gs = r.groups in
    if_else (c == 94) _ _ s P e (λ y x. term_at ts gs t c 94 w y
    (term_next ts gs t text_start (94 ∷ w) w at_start (completes_at (asserted text_start r) s w t x h))) (λ n94 e2.
    if_else (c == 36) _ _ s P e2 (λ y x. term_at ts gs t c 36 w y
    (term_next ts gs t text_end (36 ∷ w) w at_end (completes_at (asserted text_end r) s w t x h))) (λ n36 e3.
    if_else (c == 124) _ _ s P e3 (λ y x. term_at ts gs t c 124 w y
    (let i = completes_at (at Term (leaf nothing (chosen r))) s w t x h in (i.0, i.1, bar i.2, i.3))) (λ n124 e4.
    if_else (c == 41) _ _ s P e4 (λ y x. term_at ts gs t c 41 w y (closed_next gs r s w t refl x h)) (λ n41 e5.
    if_else (c == 40) _ _ s P e5 (λ y x. term_at ts gs t c 40 w y (completes_at (at Paren r) s w t x h)) (λ n40 e6.
    if_else (c == 91) _ _ s P e6 (λ y x. term_at ts gs t c 91 w y
    (class_opened ts gs w (completes_at (at ClassOpen (record r { negated = false; ranges = [] })) s w t x h)))
    (λ n91 e7.
    if_else (c == 92) _ _ s P e7 (λ y x. term_at ts gs t c 92 w y (completes_at (at Escape r) s w t x h)) (λ n92 e8.
    if_else (c == 46) _ _ s P e8 (λ y x. term_at ts gs t c 46 w y
    (atom_next ts gs t any (46 ∷ w) w dot (completes_at (with_atom any r) s w t x h))) (λ n46 x.
    atom_next ts gs t (char c) (c ∷ w) w (ordinary (all_false c n94 n36 n92 n46 n42 n43 n63 n40 n41 n91 n124)
    (no_braces c w (eqb-false c 123 n123))) (completes_at (with_atom (char c) r) s w t x h)))))))))
  where
    class_opened : (ts : List Tree) (gs : List Open) (w : List ℕ)
        → CompletesIn ClassOpen (record {
          trees = ts;
          groups = gs;
          mode = ClassOpen;
          braces = [];
          negated = false;
          ranges = [];
          product = 1;
          atom_product = 1;
          products = [];
        }) w t → InTerm ts gs (91 ∷ w) t
    class_opened ts gs w (inl h) = let i = h.1 in atom_next ts gs t (one_of false i.0) (91 ∷ w) i.1 (class h.0 i.2) i.3
    class_opened ts gs w (inr h) = let i = h.2 in
        subst (λ (v : List ℕ). InTerm ts gs (91 ∷ v) t) (sym h.1)
        (atom_next ts gs t (one_of true i.0) (91 ∷ 94 ∷ h.0) i.1 (negated_class i.2) i.3)

-- a quantifier after an atom
mark_step : (r s : Reading) (product least : ℕ) (most : Option ℕ) (w text : List ℕ) (t : Tree)
    → ((rest : List ℕ) → rest ≡ w → Mark least most text rest) → quantified least most (charged product r) ≡ s
    → Completes s w t → AfterAtom (top r.trees) (below r.trees) r.groups text t
mark_step r s product least most w text t mark e h = by_lazy (subst (λ (y : Reading). Completes y w t) (sym e) h)
  where
    ts : List Tree
    ts = sequence (top (below r.trees)) (repetition least most (top r.trees)) ∷ below (below r.trees)

    by_lazy : InTerm ts r.groups w t ⊎ ((v : List ℕ) × (w ≡ 63 ∷ v) × InTerm ts r.groups v t)
        → AfterAtom (top r.trees) (below r.trees) r.groups text t
    by_lazy (inl i) = (repetition least most (top r.trees), w, greedy_suffix (mark w refl), i)
    by_lazy (inr l) = (repetition least most (top r.trees), l.0, lazy_suffix (mark (63 ∷ l.0) (sym l.1)), l.2)

-- where a term may begin, or a quantifier after an atom
plain_step : (after_atom may_be_lazy : Bool) (c : ℕ) (r s : Reading) (w : List ℕ) (t : Tree)
    → plain after_atom may_be_lazy c r ≡ Some s → Completes s w t → Base after_atom r (c ∷ w) t
    ⊎ ((may_be_lazy ≡ true) × (c ≡ 63) × InTerm r.trees r.groups w t)
plain_step after_atom may_be_lazy c r s w t e h =
    let P : Type 0 = Base after_atom r (c ∷ w) t ⊎ ((may_be_lazy ≡ true) × (c ≡ 63) × InTerm r.trees r.groups w t) in
    if_else (c == 42) _ _ s P e (λ y x. inl (marked_step after_atom 0 None 42 y
    (λ rest same. subst (λ (v : List ℕ). Mark 0 None (42 ∷ w) v) (sym same) star_mark) x)) (λ n42 e2.
    if_else (c == 43) _ _ s P e2 (λ y x. inl (marked_step after_atom 1 None 43 y
    (λ rest same. subst (λ (v : List ℕ). Mark 1 None (43 ∷ w) v) (sym same) plus_mark) x)) (λ n43 e3.
    if_else (c == 63) _ _ s P e3 (λ y x. lazy_step y x) (λ n63 e4.
    if_else (c == 123) _ _ s P e4 (λ y x. inl (braced after_atom y x))
    (λ n123 x. inl (settled_step after_atom n42 n43 n63 n123 x)))))
  where
    based : (after : Bool) (k : ℕ) → c == k ≡ true → Base after r (k ∷ w) t → Base after r (c ∷ w) t
    based after k y b = subst (λ (d : ℕ). Base after r (d ∷ w) t) (sym (eqb-true c k y)) b

    marked_step : (after : Bool) (least : ℕ) (most : Option ℕ) (k : ℕ) → c == k ≡ true
        → ((rest : List ℕ) → rest ≡ w → Mark least most (k ∷ w) rest)
        → marked after r.atom_product least most r ≡ Some s → Base after r (c ∷ w) t
    marked_step true least most k y mark x = based true k y (mark_step r s r.atom_product least most w (k ∷ w) t mark
        (same_Some (quantified least most (charged r.atom_product r)) s x) h)
    marked_step false least most k y mark x = no_some s x

    lazy_by : (after may : Bool) → c == 63 ≡ true
        → cond may (Some (at Term r)) (marked after r.atom_product 0 (Some 1) r) ≡ Some s → Base after r (c ∷ w) t
        ⊎ ((may ≡ true) × (c ≡ 63) × InTerm r.trees r.groups w t)
    lazy_by after true y x = inr (refl, eqb-true c 63 y, completes_at (at Term r) s w t x h)
    lazy_by after false y x = inl (marked_step after 0 (Some 1) 63 y
        (λ rest same. subst (λ (v : List ℕ). Mark 0 (Some 1) (63 ∷ w) v) (sym same) question_mark) x)

    lazy_step : c == 63 ≡ true → cond may_be_lazy (Some (at Term r)) (marked after_atom r.atom_product 0 (Some 1) r) ≡
        Some s → Base after_atom r (c ∷ w) t ⊎ ((may_be_lazy ≡ true) × (c ≡ 63) × InTerm r.trees r.groups w t)
    lazy_step y x = lazy_by after_atom may_be_lazy y x

    braced : (after : Bool) → c == 123 ≡ true → Some (at (Braces after) (record r { braces = [] })) ≡ Some s
        → Base after r (c ∷ w) t
    braced after y x =
        based after 123 y (unbraced after (completes_at (at (Braces after) (record r { braces = [] })) s w t x h tt))
      where
        unbraced : (after : Bool) → Base after (record r { braces = []; mode = Braces after }) (123 ∷ w) t
            → Base after r (123 ∷ w) t
        unbraced true b = b
        unbraced false b = b

    settled_step : (after : Bool) → c == 42 ≡ false → c == 43 ≡ false → c == 63 ≡ false → c == 123 ≡ false
        → term_begun c (settled after r) ≡ Some s → Base after r (c ∷ w) t
    settled_step true n42 n43 n63 n123 x = unsuffixed (below r.trees) r.groups t (top r.trees) (c ∷ w)
        (term_step c (with_term r) s w t n42 n43 n63 n123 x h)
    settled_step false n42 n43 n63 n123 x = term_step c r s w t n42 n43 n63 n123 x h

-- a step where no quantifier can be made lazy
base_step : (after_atom : Bool) (c : ℕ) (r s : Reading) (w : List ℕ) (t : Tree) → plain after_atom false c r ≡ Some s
    → Completes s w t → Base after_atom r (c ∷ w) t
base_step after_atom c r s w t e h = by_cases (plain_step after_atom false c r s w t e h)
  where
    by_cases : Base after_atom r (c ∷ w) t ⊎ ((false ≡ true) × (c ≡ 63) × InTerm r.trees r.groups w t)
        → Base after_atom r (c ∷ w) t
    by_cases (inl b) = b
    by_cases (inr l) = absurd (false≢true l.0)

-- digits and commas stand for themselves
pub digit_plain : (c : ℕ) → is_ascii_digit c ≡ true → is_plain c ≡ true
digit_plain c h =
    let bounds = digit_within c h in
    all_false c (below_apart c 94 (omega (arith, bounds.1))) (above_apart c 36 (omega (arith, bounds.0)))
    (below_apart c 92 (omega (arith, bounds.1))) (above_apart c 46 (omega (arith, bounds.0)))
    (above_apart c 42 (omega (arith, bounds.0))) (above_apart c 43 (omega (arith, bounds.0)))
    (below_apart c 63 (omega (arith, bounds.1))) (above_apart c 40 (omega (arith, bounds.0)))
    (above_apart c 41 (omega (arith, bounds.0))) (below_apart c 91 (omega (arith, bounds.1)))
    (below_apart c 124 (omega (arith, bounds.1)))

inner_atom : (c : ℕ) (rest : List ℕ) → (is_ascii_digit c ≡ true) ⊎ (c ≡ 44) → Reads (atom (char c)) (c ∷ rest) rest
inner_atom c rest (inl h) = ordinary (digit_plain c h) (no_braces c rest (λ e. omega (arith, digit_within c h, e)))
inner_atom c rest (inr h) = subst (λ (d : ℕ). Reads (atom (char d)) (d ∷ rest) rest) (sym h)
    (ordinary refl (no_braces 44 rest (λ e. absurd (omega (arith, e)))))

flushed_chars_next : (cs : List ℕ) (r : Reading) (rest : List ℕ) (t : Tree) → AllInner cs
    → AfterAtom (top (flushed_chars cs r).trees) (below (flushed_chars cs r).trees) (flushed_chars cs r).groups rest t
    → AfterAtom (top r.trees) (below r.trees) r.groups (cs ++ rest) t
flushed_chars_next [] r rest t h a = a
flushed_chars_next (c ∷ cs) r rest t h a =
    let later = flushed_chars_next cs (with_atom (char c) (with_term r)) rest t h.1 a in
    unsuffixed (below r.trees) r.groups t (top r.trees) (c ∷ (cs ++ rest))
    (atom_next (joined r).trees r.groups t (char c) (c ∷ (cs ++ rest)) (cs ++ rest) (inner_atom c (cs ++ rest) h.0)
    later)

-- braces that are no quantifier
pub flushed_next : (after_atom : Bool) (r : Reading) (rest : List ℕ) (t : Tree) → AllInner r.braces
    → (BeginsBraces (123 ∷ (r.braces ++ rest)) → ⊥)
    → AfterAtom (top (flushed after_atom r).trees) (below (flushed after_atom r).trees) (flushed after_atom r).groups
    rest t → Base after_atom r (123 ∷ (r.braces ++ rest)) t
flushed_next true r rest t h no_b a =
    let later = flushed_chars_next r.braces (record (with_atom (char 123) (with_term r)) { braces = [] }) rest t h a in
    unsuffixed (below r.trees) r.groups t (top r.trees) (123 ∷ (r.braces ++ rest))
    (atom_next (joined r).trees r.groups t (char 123) (123 ∷ (r.braces ++ rest)) (r.braces ++ rest)
    (ordinary refl no_b) later)
flushed_next false r rest t h no_b a =
    let later = flushed_chars_next r.braces (record (with_atom (char 123) r) { braces = [] }) rest t h a in
    atom_next r.trees r.groups t (char 123) (123 ∷ (r.braces ++ rest)) (r.braces ++ rest) (ordinary refl no_b) later

pub inner_is : (bs : List ℕ) (c : ℕ) → is_inner bs c ≡ true → (is_ascii_digit c ≡ true) ⊎ (c ≡ 44)
inner_is bs c h = by_digit (is_ascii_digit c) refl h
  where
    by_comma : (b : Bool) → c == 44 ≡ b → b && may_be_comma bs ≡ true → (is_ascii_digit c ≡ true) ⊎ (c ≡ 44)
    by_comma true e g = inr (eqb-true c 44 e)
    by_comma false e g = absurd (false≢true g)

    by_digit : (b : Bool) → is_ascii_digit c ≡ b → b || (c == 44) && may_be_comma bs ≡ true → (is_ascii_digit c ≡ true)
        ⊎ (c ≡ 44)
    by_digit true e g = inl e
    by_digit false e g = by_comma (c == 44) refl g

braces_step : (after_atom : Bool) (c : ℕ) (r s : Reading) (w : List ℕ) (t : Tree) → r.mode ≡ Braces after_atom
    → in_braces after_atom c r ≡ Some s → Completes s w t → AllInner r.braces
    → Base after_atom r (123 ∷ (r.braces ++ c ∷ w)) t
braces_step after_atom c r s w t m e h inner =
    let P : Type 0 = Base after_atom r (123 ∷ (r.braces ++ c ∷ w)) t in
    if_else (is_inner r.braces c) _ _ s P e (λ y x. goes_on y x) (λ out e2.
    if_else (c == 125) _ _ s P e2 (λ y x. at_end (bounds_of r.braces) refl y out x)
    (λ n125 x. broken out (λ e125. absurd (eqb-false c 125 n125 e125)) x))
  where
    more : Reading
    more = record r { braces = r.braces ++ c ∷ [] }

    same_base : (after : Bool) → Base after more (123 ∷ (r.braces ++ c ∷ w)) t
        → Base after r (123 ∷ (r.braces ++ c ∷ w)) t
    same_base true b = b
    same_base false b = b

    goes_on : is_inner r.braces c ≡ true → Some more ≡ Some s → Base after_atom r (123 ∷ (r.braces ++ c ∷ w)) t
    goes_on y x =
        let i : CompletesIn (Braces after_atom) more w t =
        subst (λ (k : Mode). CompletesIn k more w t) m (completes_at more s w t x h) in
        let b = i (inner-append r.braces (c ∷ []) inner (inner_is r.braces c y, tt)) in
        same_base after_atom (subst (λ (v : List ℕ). Base after_atom more (123 ∷ v) t)
        (append_assoc r.braces (c ∷ []) w) b)

    broken : is_inner r.braces c ≡ false → (c ≡ 125 → bounds_of r.braces ≡ None)
        → plain true false c (flushed after_atom r) ≡ Some s → Base after_atom r (123 ∷ (r.braces ++ c ∷ w)) t
    broken out none x = flushed_next after_atom r (c ∷ w) t inner (breaks r.braces c w inner out none)
        (base_step true c (flushed after_atom r) s w t x h)

    counted : (after : Bool) (n : ℕ) (k : Option ℕ) → bounds_of r.braces ≡ Some (n, k) → c == 125 ≡ true
        → marked after (r.atom_product * count_of n k) n k r ≡ Some s → Base after r (123 ∷ (r.braces ++ c ∷ w)) t
    counted true n k b y x =
        subst (λ (d : ℕ). AfterAtom (top r.trees) (below r.trees) r.groups (123 ∷ (r.braces ++ d ∷ w)) t)
        (sym (eqb-true c 125 y))
        (mark_step r s (r.atom_product * count_of n k) n k w (123 ∷ (r.braces ++ 125 ∷ w)) t
        (λ rest same. subst (λ (v : List ℕ). Mark n k (123 ∷ (r.braces ++ 125 ∷ w)) v) (sym same)
        (braces_mark r.braces (bounds_sound r.braces n k b)))
        (same_Some (quantified n k (charged (r.atom_product * count_of n k) r)) s x) h)
    counted false n k b y x = no_some s x

    at_end : (o : Option (ℕ × Option ℕ)) → bounds_of r.braces ≡ o → c == 125 ≡ true → is_inner r.braces c ≡ false
        → in_braces_end o after_atom c r ≡ Some s → Base after_atom r (123 ∷ (r.braces ++ c ∷ w)) t
    at_end None b y out x = broken out (λ e125. b) x
    at_end (Some bounds) b y out x = counted after_atom bounds.0 bounds.1 b y x

-- hexadecimal digits
module _ (value : ℕ) (greatest : ℕ) where
  pub scalar_is : (v : ℕ) → scalar v ≡ Some greatest → (v ≡ greatest) × (is_surrogate v ≡ false)
  scalar_is v e = by_test (is_surrogate v) refl (nat_lt 0x10ffff v) e
    where
      by_test : (b : Bool) → is_surrogate v ≡ b → (d : Bool) → cond (b || d) None (Some v) ≡ Some greatest
          → (v ≡ greatest) × (is_surrogate v ≡ false)
      by_test true e d g = cc
      by_test false e true g = cc
      by_test false e false g = (same_Some v greatest g, e)

  pub last_digit : greatest_from value 0 ≡ Some greatest → (value ≡ greatest) × (is_surrogate value ≡ false)
  last_digit e = scalar_is value e

pub hex_guard : (value left : ℕ) (x y : Option Reading) (s : Reading) (P : Type 0)
    → cond (nat_lt 0xfff value || (left == 0)) None y ≡ Some s → ((l : ℕ) → left ≡ suc l → y ≡ Some s → P) → P
hex_guard value zero x y s P e then_ = absurd (never_both (nat_lt 0xfff value) e)
  where
    never_both : (b : Bool) → cond (b || true) None y ≡ Some s → ⊥
    never_both true g = cc
    never_both false g = cc
hex_guard value (suc l) x y s P e then_ =
    if_else (nat_lt 0xfff value || (suc l == 0)) None y s P e (λ b g. no_some s g) (λ b g. then_ l refl g)

-- a digit more, in front of those that lead to the character
hex_more : (value l c d ch : ℕ) (w mid : List ℕ) → hex_value c ≡ Some d → Hex l (value * 16 + d) w mid ch
    → Hex (suc l) value (c ∷ w) mid ch
hex_more value l c d ch w mid e h = (c, d, w, refl, e, h)

hex_step : (value left c : ℕ) (r s : Reading) (w : List ℕ) (t : Tree) → hex_by (hex_value c) value left r ≡ Some s
    → Completes s w t → CompletesIn (modes.Hex value left) r (c ∷ w) t
hex_step value left c r s w t e h = by_digit (hex_value c) refl e
  where
    P : Type 0
    P = CompletesIn (modes.Hex value left) r (c ∷ w) t

    by_left : (d l : ℕ) → hex_value c ≡ Some d → left ≡ suc l → (o : Option ℕ) → greatest_from (value * 16 + d) l ≡ o
        → hex_to o (value * 16 + d) l r ≡ Some s → P
    by_left d l here is None g x = no_some s x
    by_left d l here is (Some top_char) g x =
        if_else (l == 0) _ _ s P x
        (λ z y.
        let l0 : l ≡ 0 = eqb-true l 0 z in
        let last = last_digit (value * 16 + d) top_char (subst
        (λ (k : ℕ). greatest_from (value * 16 + d) k ≡ Some top_char) l0 g) in
        let after = completes_at (with_atom (char top_char) r) s w t y h in
        subst (λ (k : ℕ). CompletesIn (modes.Hex value k) r (c ∷ w) t) (sym is)
        (subst (λ (k : ℕ). CompletesIn (modes.Hex value (suc k)) r (c ∷ w) t) (sym l0) (
          top_char,
          w,
          hex_more value 0 c d top_char w w here (refl, last.0),
          subst (λ (k : ℕ). is_surrogate k ≡ false) last.0 last.1,
          after,
        )))
        (λ z y.
        let i = completes_at (at (modes.Hex (value * 16 + d) l) r) s w t y h in
        subst (λ (k : ℕ). CompletesIn (modes.Hex value k) r (c ∷ w) t) (sym is)
        (i.0, i.1, hex_more value l c d i.0 w i.1 here i.2, i.3, i.4))

    by_digit : (o : Option ℕ) → hex_value c ≡ o → hex_by o value left r ≡ Some s → P
    by_digit None here x = no_some s x
    by_digit (Some d) here x = hex_guard value left None (hex_to (greatest_from (value * 16 + d) (left - 1))
        (value * 16 + d) (left - 1) r) s P x
        (λ l is y. let same : left - 1 ≡ l = omega (arith, is) in
        by_left d l here is (greatest_from (value * 16 + d) l) refl
        (subst (λ (k : ℕ). hex_to (greatest_from (value * 16 + d) k) (value * 16 + d) k r ≡ Some s) same y))

escape_step : (c : ℕ) (r s : Reading) (w : List ℕ) (t : Tree) → with_set (set_of c) c r ≡ Some s → Completes s w t
    → InTerm r.trees r.groups (92 ∷ c ∷ w) t
escape_step c r s w t e h = by_set (set_of c) refl e
  where
    ts : List Tree
    ts = r.trees

    gs : List Open
    gs = r.groups

    P : Type 0
    P = InTerm ts gs (92 ∷ c ∷ w) t

    at_char : (k : ℕ) → c == k ≡ true → InTerm ts gs (92 ∷ k ∷ w) t → P
    at_char k y i = subst (λ (d : ℕ). InTerm ts gs (92 ∷ d ∷ w) t) (sym (eqb-true c k y)) i

    by_char : (o : Option ℕ) → escaped c ≡ o → with_char o r ≡ Some s → P
    by_char None here x = no_some s x
    by_char (Some v) here x = atom_next ts gs t (char v) (92 ∷ c ∷ w) w (char_escape (named here))
        (completes_at (with_atom (char v) r) s w t x h)

    by_set : (o : Option (List CharRange)) → set_of c ≡ o → with_set o c r ≡ Some s → P
    by_set (Some ranges) here x = atom_next ts gs t (one_of false ranges) (92 ∷ c ∷ w) w (set_escape here)
        (completes_at (with_atom (one_of false ranges) r) s w t x h)
    by_set None here x =
        if_else (c == 98) _ _ s P x (λ y z. at_char 98 y (term_next ts gs t (word_boundary false) (92 ∷ 98 ∷ w) w
        at_boundary (completes_at (asserted (word_boundary false) r) s w t z h))) (λ n98 x2.
        if_else (c == 66) _ _ s P x2 (λ y z. at_char 66 y (term_next ts gs t (word_boundary true) (92 ∷ 66 ∷ w) w
        at_no_boundary (completes_at (asserted (word_boundary true) r) s w t z h))) (λ n66 x3.
        if_else (c == 120) _ _ s P x3 (λ y z. at_char 120 y (let i = completes_at (at (modes.Hex 0 2) r) s w t z h in
        atom_next ts gs t (char i.0) (92 ∷ 120 ∷ w) i.1 (char_escape (two_digits i.2)) i.4)) (λ n120 x4.
        if_else (c == 117) _ _ s P x4 (λ y z. at_char 117 y (let i = completes_at (at (modes.Hex 0 4) r) s w t z h in
        atom_next ts gs t (char i.0) (92 ∷ 117 ∷ w) i.1 (char_escape (four_digits i.2 i.3)) i.4)) (λ n117 x5.
        if_else (c == 48) _ _ s P x5 (λ y z. at_char 48 y (let i =
        completes_at (at Zero (with_atom (char 0) r)) s w t z h in
        atom_next ts gs t (char 0) (92 ∷ 48 ∷ w) w (char_escape (zero_char i.0)) i.1)) (λ n48 x6.
        by_char (escaped c) refl x6)))))

-- classes
item_step : (before : Before) (c : ℕ) (r s : Reading) (w : List ℕ) (t : Tree) → (c == 45 ≡ true → before ≡ bracket)
    → item c r ≡ Some s → Completes s w t → InClass before r (c ∷ w) t
item_step before c r s w t dash e h =
    let P : Type 0 = InClass before r (c ∷ w) t in
    if_else (c == 93) _ _ s P e (λ y x. at_char 93 y (r.ranges, w, no_item, completes_at (class_end r) s w t x h))
    (λ n93 e2.
    if_else (c == 92) _ _ s P e2 (λ y x. at_char 92 y (let i = completes_at (at (modes.ClassEscape None) r) s w t x h in
    (i.0, i.1, escape_item i.2, i.3))) (λ n92 x.
    let i = completes_at (at (modes.ClassChar c) r) s w t x h in
    (i.0, i.1, first_after (first (c == 45) refl n93 n92) i.2, i.3)))
  where
    at_char : (k : ℕ) → c == k ≡ true → InClass before r (k ∷ w) t → InClass before r (c ∷ w) t
    at_char k y i = subst (λ (d : ℕ). InClass before r (d ∷ w) t) (sym (eqb-true c k y)) i

    first : (b : Bool) → c == 45 ≡ b → c == 93 ≡ false → c == 92 ≡ false → FirstChar before c (c ∷ w) w
    first true y n93 n92 = subst (λ (f : Before). FirstChar f c (c ∷ w) w) (sym (dash y))
        (subst (λ (d : ℕ). FirstChar bracket d (d ∷ w) w) (sym (eqb-true c 45 y)) first_dash)
    first false y n93 n92 = other_char (itself (rw (n93, n92, y)))

next_item_step : (c : ℕ) (r s : Reading) (w : List ℕ) (t : Tree) → next_item c r ≡ Some s → Completes s w t
    → InClass range_or_set r (c ∷ w) t
next_item_step c r s w t e h =
    if_else (c == 45) _ _ s (InClass range_or_set r (c ∷ w) t) e
    (λ y x. subst (λ (d : ℕ). InClass range_or_set r (d ∷ w) t) (sym (eqb-true c 45 y))
    (completes_at (at ClassNextDash r) s w t x h))
    (λ n45 x. item_step range_or_set c r s w t (λ y. absurd (false≢true (sym n45 ∙ y))) x h)

after_char_step : (first c : ℕ) (r s : Reading) (w : List ℕ) (t : Tree) → after_char first c r ≡ Some s
    → Completes s w t → AfterChar first r (c ∷ w) t
after_char_step first c r s w t e h =
    let P : Type 0 = AfterChar first r (c ∷ w) t in
    if_else (c == 45) _ _ s P e
    (λ y x. subst (λ (d : ℕ). AfterChar first r (d ∷ w) t) (sym (eqb-true c 45 y))
    (completes_at (at (modes.ClassDash first) r) s w t x h))
    (λ n45 x. let i = item_step character c (ranged first first r) s w t (λ y. absurd (false≢true (sym n45 ∙ y))) x h in
    (i.0, i.1, after_one i.2, i.3))

-- a character that ends a range, or begins an item
class_char_step : (first : Option ℕ) (d : ℕ) (r s : Reading) (w : List ℕ) (t : Tree) → class_char first d r ≡ Some s
    → Completes s w t → AfterEnd first d r w t
class_char_step None d r s w t e h = let i = completes_at (at (modes.ClassChar d) r) s w t e h in (i.0, i.1, i.2, i.3)
class_char_step (Some c) d r s w t e h =
    if_else (nat_le c d) _ _ s (AfterEnd (Some c) d r w t) e
    (λ y x. let i = completes_at (at ClassNext (ranged c d r)) s w t x h in (i.0, i.1, (leb-true c d y, i.2), i.3))
    (λ n x. no_some s x)

range_end_step : (first c : ℕ) (r s : Reading) (w : List ℕ) (t : Tree) → c == 93 ≡ false → range_end first c r ≡ Some s
    → Completes s w t → InRange first r (c ∷ w) t
range_end_step first c r s w t n93 e h =
    let P : Type 0 = InRange first r (c ∷ w) t in
    if_else (c == 92) _ _ s P e (λ y x. at_char 92 y (escaped_end x)) (λ n92 e2.
    if_else (c == 45) _ _ s P e2 (λ y x. at_char 45 y (dash_end x)) (λ n45 x.
    let i = class_char_step (Some first) c r s w t x h in
    (i.0, i.1, c, w, end_char (itself (rw (n93, n92, n45))), i.2.0, i.2.1, i.3)))
  where
    at_char : (k : ℕ) → c == k ≡ true → InRange first r (k ∷ w) t → InRange first r (c ∷ w) t
    at_char k y i = subst (λ (d : ℕ). InRange first r (d ∷ w) t) (sym (eqb-true c k y)) i

    escaped_end : cond (nat_le first 0xffff) (Some (at (modes.ClassEscape (Some first)) r)) None ≡ Some s
        → InRange first r (92 ∷ w) t
    escaped_end x = if_else (nat_le first 0xffff) _ _ s (InRange first r (92 ∷ w) t) x
        (λ z g. let i = completes_at (at (modes.ClassEscape (Some first)) r) s w t g h in
        (i.0, i.1, i.2, i.3, end_char i.4, i.5, i.6, i.7)) (λ z g. no_some s g)

    dash_end : cond (nat_le first 45) (Some (at ClassNext (ranged first 45 r))) None ≡ Some s
        → InRange first r (45 ∷ w) t
    dash_end x = if_else (nat_le first 45) _ _ s (InRange first r (45 ∷ w) t) x
        (λ z g. let i = completes_at (at ClassNext (ranged first 45 r)) s w t g h in
        (i.0, i.1, 45, w, end_dash, leb-true first 45 z, i.2, i.3))
        (λ z g. no_some s g)

after_dash_step : (first c : ℕ) (r s : Reading) (w : List ℕ) (t : Tree) → after_dash first c r ≡ Some s
    → Completes s w t → AfterChar first r (45 ∷ c ∷ w) t
after_dash_step first c r s w t e h =
    if_else (c == 93) _ _ s (AfterChar first r (45 ∷ c ∷ w) t) e
    (λ y x. subst (λ (d : ℕ). AfterChar first r (45 ∷ d ∷ w) t) (sym (eqb-true c 93 y)) (
      r.ranges ++ range first first ∷ [] ++ range 45 45 ∷ [],
      w,
      after_one last_dash,
      completes_at (class_end (ranged 45 45 (ranged first first r))) s w t x h,
    ))
    (λ n93 x. let i = range_end_step first c r s w t n93 x h in (i.0, i.1, after_range i.4 i.5 i.6, i.7))

next_dash_step : (c : ℕ) (r s : Reading) (w : List ℕ) (t : Tree) → next_dash c r ≡ Some s → Completes s w t
    → InClass range_or_set r (45 ∷ c ∷ w) t
next_dash_step c r s w t e h =
    let P : Type 0 = InClass range_or_set r (45 ∷ c ∷ w) t in
    if_else (c == 93) _ _ s P e (λ y x. at_char 93 y (
      r.ranges ++ range 45 45 ∷ [],
      w,
      last_dash,
      completes_at (class_end (ranged 45 45 r)) s w t x h,
    )) (λ n93 e2.
    if_else (c == 45) _ _ s P e2 (λ y x. at_char 45 y (let i = completes_at (at ClassNextDashes r) s w t x h in
    (i.0, i.1, from_to start_dash i.4 i.5 i.6, i.7))) (λ n45 x. no_some s x))
  where
    at_char : (k : ℕ) → c == k ≡ true → InClass range_or_set r (45 ∷ k ∷ w) t → InClass range_or_set r (45 ∷ c ∷ w) t
    at_char k y i = subst (λ (d : ℕ). InClass range_or_set r (45 ∷ d ∷ w) t) (sym (eqb-true c k y)) i

-- an escape in a class, of a character that was read
escape_ended : (first : Option ℕ) (d : ℕ) (r : Reading) (text after : List ℕ) (t : Tree) → ClassChar d (92 ∷ text) after
    → AfterEnd first d r after t → InEscape first r text t
escape_ended None d r text after t read i = (i.0, i.1, escape_char read i.2, i.3)
escape_ended (Some c) d r text after t read i = (i.0, i.1, d, after, read, i.2.0, i.2.1, i.3)

class_escape_step : (first : Option ℕ) (c : ℕ) (r s : Reading) (w : List ℕ) (t : Tree)
    → class_set (set_of c) first c r ≡ Some s → Completes s w t → InEscape first r (c ∷ w) t
class_escape_step first c r s w t e h = by_set (set_of c) first refl e
  where
    at_char : (f : Option ℕ) (k : ℕ) → c == k ≡ true → InEscape f r (k ∷ w) t → InEscape f r (c ∷ w) t
    at_char f k y i = subst (λ (d : ℕ). InEscape f r (d ∷ w) t) (sym (eqb-true c k y)) i

    hexed : (f : Option ℕ) (left k : ℕ) → ((d : ℕ) (after : List ℕ) → Hex left 0 w after d → is_surrogate d ≡ false
        → ClassChar d (92 ∷ k ∷ w) after) → Some (at (modes.ClassHex f 0 left) r) ≡ Some s → InEscape f r (k ∷ w) t
    hexed f left k build x = let i = completes_at (at (modes.ClassHex f 0 left) r) s w t x h in
        escape_ended f i.2 r (k ∷ w) i.3 t (build i.2 i.3 i.4 i.5) (i.0, i.1, i.6, i.7)

    zero_step : (f : Option ℕ) → class_zero f r ≡ Some s → InEscape f r (48 ∷ w) t
    zero_step None x = let i = completes_at (at (modes.ClassZero false) r) s w t x h in
        escape_ended None 0 r (48 ∷ w) w t (class_escape (zero_char i.0)) (i.1.0, i.1.1, i.1.2, i.1.3)
    zero_step (Some k) x = if_else (k == 0) _ _ s (InEscape (Some k) r (48 ∷ w) t) x
        (λ y g.
        let i = completes_at (at (modes.ClassZero true) (ranged 0 0 r)) s w t g h in
        subst (λ (j : ℕ). InEscape (Some j) r (48 ∷ w) t) (sym (eqb-true k 0 y))
        (i.1.0, i.1.1, 0, w, class_escape (zero_char i.0), omega arith, i.1.2, i.1.3))
        (λ y g. no_some s g)

    by_char : (f : Option ℕ) (o : Option ℕ) → escaped c ≡ o → class_char_if f o r ≡ Some s → InEscape f r (c ∷ w) t
    by_char f None here x = no_some s x
    by_char f (Some v) here x =
        escape_ended f v r (c ∷ w) w t (class_escape (named here)) (class_char_step f v r s w t x h)

    rest_step : (f : Option ℕ) → class_set None f c r ≡ Some s → InEscape f r (c ∷ w) t
    rest_step f x =
        let P : Type 0 = InEscape f r (c ∷ w) t in
        if_else (c == 98) _ _ s P x (λ y g. at_char f 98 y (escape_ended f 8 r (98 ∷ w) w t backspace
        (class_char_step f 8 r s w t g h))) (λ n98 x2.
        if_else (c == 120) _ _ s P x2 (λ y g. at_char f 120 y
        (if_else (can_end f 0xff) _ _ s (InEscape f r (120 ∷ w) t) g
        (λ z k. hexed f 2 120 (λ d after hx ns. class_escape (two_digits hx)) k) (λ z k. no_some s k))) (λ n120 x3.
        if_else (c == 117) _ _ s P x3 (λ y g. at_char f 117 y
        (if_else (can_end f 0xffff) _ _ s (InEscape f r (117 ∷ w) t) g
        (λ z k. hexed f 4 117 (λ d after hx ns. class_escape (four_digits hx ns)) k) (λ z k. no_some s k)))
        (λ n117 x4.
        if_else (c == 48) _ _ s P x4 (λ y g. at_char f 48 y (zero_step f g))
        (λ n48 x5. by_char f (escaped c) refl x5))))

    by_set : (o : Option (List CharRange)) (f : Option ℕ) → set_of c ≡ o → class_set o f c r ≡ Some s
        → InEscape f r (c ∷ w) t
    by_set (Some ranges) None here x =
        let i = completes_at (with_ranges ranges r) s w t x h in (i.0, i.1, escape_set here i.2, i.3)
    by_set (Some ranges) (Some k) here x = no_some s x
    by_set None f here x = rest_step f x

class_hex_step : (first : Option ℕ) (value left c : ℕ) (r s : Reading) (w : List ℕ) (t : Tree)
    → class_hex_by (hex_value c) first value left r ≡ Some s → Completes s w t
    → CompletesIn (modes.ClassHex first value left) r (c ∷ w) t
class_hex_step first value left c r s w t e h = by_digit (hex_value c) refl e
  where
    P : Type 0
    P = CompletesIn (modes.ClassHex first value left) r (c ∷ w) t

    by_left : (d l : ℕ) → hex_value c ≡ Some d → left ≡ suc l → (o : Option ℕ) → greatest_from (value * 16 + d) l ≡ o
        → class_hex_to o first (value * 16 + d) l r ≡ Some s → P
    by_left d l here is None g x = no_some s x
    by_left d l here is (Some top_char) g x =
        if_else (can_end first top_char) _ _ s P x
        (λ ok x2. if_else (l == 0) _ _ s P x2
        (λ z y.
        let l0 : l ≡ 0 = eqb-true l 0 z in
        let last = last_digit (value * 16 + d) top_char (subst
        (λ (k : ℕ). greatest_from (value * 16 + d) k ≡ Some top_char) l0 g) in
        let i = class_char_step first top_char r s w t y h in
        subst (λ (k : ℕ). CompletesIn (modes.ClassHex first value k) r (c ∷ w) t) (sym is)
        (subst (λ (k : ℕ). CompletesIn (modes.ClassHex first value (suc k)) r (c ∷ w) t) (sym l0) (
          i.0,
          i.1,
          top_char,
          w,
          hex_more value 0 c d top_char w w here (refl, last.0),
          subst (λ (k : ℕ). is_surrogate k ≡ false) last.0 last.1,
          i.2,
          i.3,
        )))
        (λ z y.
        let i = completes_at (at (modes.ClassHex first (value * 16 + d) l) r) s w t y h in
        subst (λ (k : ℕ). CompletesIn (modes.ClassHex first value k) r (c ∷ w) t) (sym is)
        (i.0, i.1, i.2, i.3, hex_more value l c d i.2 w i.3 here i.4, i.5, i.6, i.7)))
        (λ ok x2. no_some s x2)

    by_digit : (o : Option ℕ) → hex_value c ≡ o → class_hex_by o first value left r ≡ Some s → P
    by_digit None here x = no_some s x
    by_digit (Some d) here x = hex_guard value left None (class_hex_to (greatest_from (value * 16 + d) (left - 1)) first
        (value * 16 + d) (left - 1) r) s P x
        (λ l is y. let same : left - 1 ≡ l = omega (arith, is) in
        by_left d l here is (greatest_from (value * 16 + d) l) refl
        (subst (λ (k : ℕ). class_hex_to (greatest_from (value * 16 + d) k) first (value * 16 + d) k r ≡ Some s) same y))

-- each character
pub step_completes : (m : Mode) (c : ℕ) (r s : Reading) (w : List ℕ) (t : Tree) → r.mode ≡ m → step_in m c r ≡ Some s
    → Completes s w t → CompletesIn m r (c ∷ w) t
step_completes Term c r s w t m e h = base_step false c r s w t e h
step_completes Atom c r s w t m e h = base_step true c r s w t e h
step_completes Quantified c r s w t m e h = by_lazy (plain_step false true c r s w t e h)
  where
    by_lazy : InTerm r.trees r.groups (c ∷ w) t ⊎ ((true ≡ true) × (c ≡ 63) × InTerm r.trees r.groups w t)
        → InTerm r.trees r.groups (c ∷ w) t ⊎ ((v : List ℕ) × (c ∷ w ≡ 63 ∷ v) × InTerm r.trees r.groups v t)
    by_lazy (inl i) = inl i
    by_lazy (inr l) = inr (w, ap (λ (d : ℕ). d ∷ w) l.1, l.2)
step_completes Zero c r s w t m e h = if_else (is_ascii_digit c) _ _ s (CompletesIn Zero r (c ∷ w) t) e
    (λ y x. no_some s x) (λ n x. ((λ d. false≢true (sym n ∙ d)), base_step true c r s w t x h))
step_completes (Braces after_atom) c r s w t m e h = braces_step after_atom c r s w t m e h
step_completes Escape c r s w t m e h = escape_step c r s w t e h
step_completes (modes.Hex value left) c r s w t m e h = hex_step value left c r s w t e h
step_completes Paren c r s w t m e h = if_else (c == 63) _ _ s (InTerm r.trees r.groups (40 ∷ c ∷ w) t) e
    (λ y x. subst (λ (d : ℕ). InTerm r.trees r.groups (40 ∷ d ∷ w) t) (sym (eqb-true c 63 y))
    (completes_at (at ParenQuestion r) s w t x h))
    (λ n x. opened_next r.trees r.groups t (40 ∷ c ∷ w) (c ∷ w) (λ g rest body. group body)
    (base_step false c (opened Group r) s w t x h))
step_completes ParenQuestion c r s w t m e h =
    let P : Type 0 = InTerm r.trees r.groups (40 ∷ 63 ∷ c ∷ w) t in
    let at_char : (k : ℕ) → c == k ≡ true → InTerm r.trees r.groups (40 ∷ 63 ∷ k ∷ w) t → P =
    λ k y i. subst (λ (d : ℕ). InTerm r.trees r.groups (40 ∷ 63 ∷ d ∷ w) t) (sym (eqb-true c k y)) i in
    if_else (c == 58) _ _ s P e (λ y x. at_char 58 y (opened_next r.trees r.groups t (40 ∷ 63 ∷ 58 ∷ w) w
    (λ g rest body. bare_group body) (completes_at (opened Group r) s w t x h))) (λ n58 e2.
    if_else (c == 61) _ _ s P e2 (λ y x. at_char 61 y (ahead_next r.trees r.groups t false (40 ∷ 63 ∷ 61 ∷ w) w
    (λ g rest body. ahead body) (completes_at (opened (Ahead false) r) s w t x h))) (λ n61 e3.
    if_else (c == 33) _ _ s P e3 (λ y x. at_char 33 y (ahead_next r.trees r.groups t true (40 ∷ 63 ∷ 33 ∷ w) w
    (λ g rest body. not_ahead body) (completes_at (opened (Ahead true) r) s w t x h))) (λ n33 x. no_some s x)))
step_completes ClassOpen c r s w t m e h = if_else (c == 94) _ _ s (CompletesIn ClassOpen r (c ∷ w) t) e
    (λ y x. inr (
      w,
      ap (λ (d : ℕ). d ∷ w) (eqb-true c 94 y),
      completes_at (at ClassFirst (record r { negated = true })) s w t x h,
    ))
    (λ n x. inl (eqb-false c 94 n, item_step bracket c r s w t (λ y. refl) x h))
step_completes ClassFirst c r s w t m e h = item_step bracket c r s w t (λ y. refl) e h
step_completes ClassNext c r s w t m e h = next_item_step c r s w t e h
step_completes ClassNextDash c r s w t m e h = next_dash_step c r s w t e h
step_completes ClassNextDashes c r s w t m e h =
    if_else (c == 93) _ _ s (CompletesIn ClassNextDashes r (c ∷ w) t) e (λ y x. no_some s x)
    (λ n x. range_end_step 45 c r s w t n x h)
step_completes (modes.ClassChar first) c r s w t m e h = after_char_step first c r s w t e h
step_completes (modes.ClassDash first) c r s w t m e h = after_dash_step first c r s w t e h
step_completes (modes.ClassZero true) c r s w t m e h =
    if_else (is_ascii_digit c) _ _ s (CompletesIn (modes.ClassZero true) r (c ∷ w) t) e (λ y x. no_some s x)
    (λ n x. ((λ d. false≢true (sym n ∙ d)), next_item_step c r s w t x h))
step_completes (modes.ClassZero false) c r s w t m e h =
    if_else (is_ascii_digit c) _ _ s (CompletesIn (modes.ClassZero false) r (c ∷ w) t) e (λ y x. no_some s x)
    (λ n x. ((λ d. false≢true (sym n ∙ d)), after_char_step 0 c r s w t x h))
step_completes (modes.ClassEscape first) c r s w t m e h = class_escape_step first c r s w t e h
step_completes (modes.ClassHex first value left) c r s w t m e h = class_hex_step first value left c r s w t e h

-- the end of the text
ended_completes : (gs : List Open) (r : Reading) (t : Tree) → r.groups ≡ gs → ended gs r ≡ Some t
    → InTerm r.trees gs [] t
ended_completes [] r t g e = ([], top (chosen r).trees, ends, (refl, same_Some (top (chosen r).trees) t e))
ended_completes (k ∷ gs) r t g e = no_some t e

end_completes : (m : Mode) (r : Reading) (t : Tree) → r.mode ≡ m → finished_in m r ≡ Some t → CompletesIn m r [] t
end_completes Term r t m e = ended_completes r.groups r t refl e
end_completes Atom r t m e =
    unsuffixed (below r.trees) r.groups t (top r.trees) [] (ended_completes r.groups (with_term r) t refl e)
end_completes Quantified r t m e = inl (ended_completes r.groups r t refl e)
end_completes Zero r t m e =
    ((λ d. d), unsuffixed (below r.trees) r.groups t (top r.trees) [] (ended_completes r.groups (with_term r) t refl e))
end_completes (Braces after_atom) r t m e = λ inner.
    let f = flushed after_atom r in
    flushed_next after_atom r [] t inner (breaks_at_end r.braces inner)
    (unsuffixed (below f.trees) f.groups t (top f.trees) [] (ended_completes f.groups (with_term f) t refl e))
end_completes Escape r t m e = no_some t e
end_completes (modes.Hex value left) r t m e = no_some t e
end_completes Paren r t m e = no_some t e
end_completes ParenQuestion r t m e = no_some t e
end_completes ClassOpen r t m e = no_some t e
end_completes ClassFirst r t m e = no_some t e
end_completes ClassNext r t m e = no_some t e
end_completes ClassNextDash r t m e = no_some t e
end_completes ClassNextDashes r t m e = no_some t e
end_completes (modes.ClassChar first) r t m e = no_some t e
end_completes (modes.ClassDash first) r t m e = no_some t e
end_completes (modes.ClassZero true) r t m e = no_some t e
end_completes (modes.ClassZero false) r t m e = no_some t e
end_completes (modes.ClassEscape first) r t m e = no_some t e
end_completes (modes.ClassHex first value left) r t m e = no_some t e

-- what is read to its end completes what was read before
completed : (text : List ℕ) (r : Reading) (t : Tree) → option_and_then finished (reads text r) ≡ Some t
    → Completes r text t
completed [] r t e = end_completes r.mode r t refl e
completed (c ∷ text) r t e = by_step (step c r) refl (completed text) e
  where
    by_step : (o : Option Reading) → step c r ≡ o
        → ((s : Reading) (u : Tree) → option_and_then finished (reads text s) ≡ Some u → Completes s text u)
        → option_and_then finished (option_and_then (reads text) o) ≡ Some t → Completes r (c ∷ text) t
    by_step None is again g = no_some t g
    by_step (Some s) is again g = step_completes r.mode c r s text t refl is (again s t g)

-- what is accepted is a pattern of its tree
pub accepted_is_pattern : (text : List ℕ) (t : Tree) → accepted text ≡ Some t → IsPattern text t
accepted_is_pattern text t e =
    let i = completed text start t e in
    subst (λ (o : List ℕ). Reads (alternatives never nothing t) text o) i.3.0
    (subst (λ (u : Tree). Reads (alternatives never nothing u) text i.0) i.3.1 i.2)
