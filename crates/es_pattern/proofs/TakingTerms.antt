-- What completes a reading outside classes, with a character in front, is taken: the machine takes that character, and
-- the rest completes what it makes of it.
use Rattle.std.proofs.Common.{
  ◌≡◌,
  ℕ,
  ◌*◌,
  Bool,
  true,
  false,
  cond,
  List,
  [],
  ◌∷◌,
  ◌++◌,
  inl,
  inr,
  Option,
  Some,
  None,
  refl,
  sym,
  ap,
  subst,
  ◌∙◌,
}
use Rattle.std.specs.Prelude.{◌==◌, ◌⊎◌, max}
use Rattle.std.proofs.lemmas.List.{append_assoc}
use Rattle.std.proofs.lemmas.Option.{none-some}
use Rattle.std.proofs.lemmas.Bool.{false≢true, eqb-true, eqb-false, ne_eqb}
use Rattle.es_pattern.specs.Tree.{
  Tree,
  CharRange,
  nothing,
  one_of,
  text_start,
  text_end,
  word_boundary,
  sequence,
  choice,
  lookahead,
}
use Rattle.es_pattern.specs.Pieces.{top, below}
use Rattle.es_pattern.specs.Escapes.{is_ascii_digit, set_of, escaped}
use Rattle.es_pattern.specs.Grammar.{
  never,
  char,
  any,
  BeginsBraces,
  alternatives,
  term,
  atom,
  Reads,
  is_plain,
  CharEscape,
}
use Rattle.es_pattern.specs.Grammar.{
  star_mark,
  plus_mark,
  question_mark,
  braces_mark,
  named,
  zero_char,
  two_digits,
  four_digits,
}
use Rattle.es_pattern.specs.Grammar.{
  ends,
  bar,
  followed,
  at_start,
  at_end,
  at_boundary,
  at_no_boundary,
  ahead,
  not_ahead,
  once,
  greedy,
  lazy,
  dot,
  group,
  bare_group,
  class,
  negated_class,
  set_escape,
  char_escape,
  ordinary,
}
use Rattle.es_pattern.specs.declared.mode.Open.{Open}
use Rattle.es_pattern.specs.declared.mode.Open.TheVariants.{Group, Ahead}
use Rattle.es_pattern.specs.declared.mode.Mode.{Mode}
use Rattle.es_pattern.specs.declared.mode.Mode.TheVariants.{
  Term,
  Atom,
  Quantified,
  Zero,
  Braces,
  Escape,
  Paren,
  ParenQuestion,
  ClassOpen,
}
use Rattle.es_pattern.specs.declared.mode.Mode.TheVariants as modes
use Rattle.es_pattern.specs.Reading.{
  Reading,
  charged,
  with_term,
  top_product,
  products_below,
  closed_by,
  quantified,
  term_begun,
  plain,
  with_set,
  with_char,
  asserted,
  joined,
  with_atom,
  opened,
  at,
  leaf,
  chosen,
  flushed,
  flushed_chars,
  bounds_of,
  in_braces_end,
  is_inner,
  in_braces,
  step_in,
}
use Rattle.es_pattern.specs.Limits.{count_of}
use Rattle.es_pattern.proofs.BracesRead.{AllInner, bounds_complete, bounds_inner, bounds_sound, breaks, inner_no_end}
use Rattle.es_pattern.proofs.Sound.{
  no_braces,
  completes_at,
  digit_plain,
  Suffix,
  no_suffix,
  greedy_suffix,
  lazy_suffix,
  Closes,
  InTerm,
  AfterAtom,
  Base,
  CompletesIn,
  Completes,
  term_next,
  atom_next,
  unsuffixed,
  Taken,
}
use Rattle.es_pattern.proofs.HexDigits.{two_small}
use Rattle.es_pattern.proofs.NumberTests.{apart_by}

-- the character marks no quantifier
abbrev NoMark : ℕ → Type 0
NoMark c = (c == 42 ≡ false) × (c == 43 ≡ false) × (c == 63 ≡ false)

-- a term begins with the character, or the group or the alternative ends with it
abbrev BeginsTerm : Reading → ℕ → List ℕ → Tree → Type 0
BeginsTerm r c w t = NoMark c × (BeginsBraces (c ∷ w) → ⊥) × Taken (term_begun c r) w t

-- a term, and what follows it
abbrev FirstTerm : List Tree → List Open → List ℕ → Tree → Type 0
FirstTerm ts gs text t =
    (u : Tree) × (mid : List ℕ) × Reads (term u) text mid × InTerm (sequence (top ts) u ∷ below ts) gs mid t

-- a character that is no `{` begins no braces
begins_term : (c : ℕ) (r : Reading) (w : List ℕ) (t : Tree) → NoMark c → c == 123 ≡ false → Taken (term_begun c r) w t
    → BeginsTerm r c w t
begins_term c r w t n n123 h = (n, no_braces c w (eqb-false c 123 n123), h)

-- a character that is no part of the syntax stands for itself
plain_begun : (r : Reading) (c : ℕ) → is_plain c ≡ true → term_begun c r ≡ Some (with_atom (char c) r)
plain_begun r c h = rw (
  apart 94 refl,
  apart 36 refl,
  apart 124 refl,
  apart 41 refl,
  apart 40 refl,
  apart 91 refl,
  apart 92 refl,
  apart 46 refl,
)
  where
    apart : (k : ℕ) → is_plain k ≡ false → c == k ≡ false
    apart k e = apart_by is_plain c k h e

-- an atom that begins with the character
atom_begins : (r : Reading) (c : ℕ) (w : List ℕ) (t a : Tree) (mid : List ℕ) → Reads (atom a) (c ∷ w) mid
    → AfterAtom a r.trees r.groups mid t → BeginsTerm r c w t
atom_begins r c w t a mid dot i = begins_term 46 r w t (refl, refl, refl) refl (with_atom any r, refl, i)
atom_begins r c w t a mid (group b) i = begins_term 40 r w t (refl, refl, refl) refl
    (at Paren r, refl, atom_next r.trees r.groups t a (40 ∷ w) mid (group b) i)
atom_begins r c w t a mid (bare_group b) i = begins_term 40 r w t (refl, refl, refl) refl
    (at Paren r, refl, atom_next r.trees r.groups t a (40 ∷ w) mid (bare_group b) i)
atom_begins r c w t a mid (class {ranges = all} n items) i =
    begins_term 91 r w t (refl, refl, refl) refl (
      at ClassOpen (record r { negated = false; ranges = [] }),
      refl,
      inl (n, (all, mid, items, i)),
    )
atom_begins r c w t a mid (negated_class {ranges = all} {text = text} items) i =
    begins_term 91 r w t (refl, refl, refl) refl (
      at ClassOpen (record r { negated = false; ranges = [] }),
      refl,
      inr (text, refl, (all, mid, items, i)),
    )
atom_begins r c w t a mid (set_escape e) i = begins_term 92 r w t (refl, refl, refl) refl
    (at Escape r, refl, atom_next r.trees r.groups t a (92 ∷ w) mid (set_escape e) i)
atom_begins r c w t a mid (char_escape e) i =
    begins_term 92 r w t (refl, refl, refl) refl (
      at Escape r,
      refl,
      atom_next r.trees r.groups t a (92 ∷ w) mid (char_escape e) i,
    )
atom_begins r c w t a mid (ordinary h n) i =
    ((apart 42 refl, apart 43 refl, apart 63 refl), n, (with_atom (char c) r, plain_begun r c h, i))
  where
    apart : (k : ℕ) → is_plain k ≡ false → c == k ≡ false
    apart k e = apart_by is_plain c k h e

-- a term that begins with the character
term_begins : (r : Reading) (c : ℕ) (w : List ℕ) (t u : Tree) (mid : List ℕ) → Reads (term u) (c ∷ w) mid
    → InTerm (sequence (top r.trees) u ∷ below r.trees) r.groups mid t → BeginsTerm r c w t
term_begins r c w t u mid at_start i = begins_term 94 r w t (refl, refl, refl) refl (asserted text_start r, refl, i)
term_begins r c w t u mid at_end i = begins_term 36 r w t (refl, refl, refl) refl (asserted text_end r, refl, i)
term_begins r c w t u mid at_boundary i = begins_term 92 r w t (refl, refl, refl) refl
    (at Escape r, refl, term_next r.trees r.groups t u (92 ∷ w) mid at_boundary i)
term_begins r c w t u mid at_no_boundary i = begins_term 92 r w t (refl, refl, refl) refl
    (at Escape r, refl, term_next r.trees r.groups t u (92 ∷ w) mid at_no_boundary i)
term_begins r c w t u mid (ahead b) i = begins_term 40 r w t (refl, refl, refl) refl
    (at Paren r, refl, term_next r.trees r.groups t u (40 ∷ w) mid (ahead b) i)
term_begins r c w t u mid (not_ahead b) i = begins_term 40 r w t (refl, refl, refl) refl
    (at Paren r, refl, term_next r.trees r.groups t u (40 ∷ w) mid (not_ahead b) i)
term_begins r c w t u mid (once a) i = atom_begins r c w t u mid a (u, mid, no_suffix, i)
term_begins r c w t u mid (greedy {t = b} {mid = after} a m) i =
    atom_begins r c w t b after a (u, mid, greedy_suffix m, i)
term_begins r c w t u mid (lazy {t = b} {mid = after} a m) i = atom_begins r c w t b after a (u, mid, lazy_suffix m, i)

-- only `)` ends a group
closes_at : (gs : List Open) (ts : List Tree) (c : ℕ) (w : List ℕ) (g t : Tree) → Closes gs ts (c ∷ w) g t → c ≡ 41
closes_at [] ts c w g t h = cc (h.0)
closes_at (Group ∷ gs) ts c w g t h = cc (h.1)
closes_at (Ahead negated ∷ gs) ts c w g t h = cc (h.1)

-- a group is closed
closed_begins : (gs : List Open) (r : Reading) (w : List ℕ) (t : Tree)
    → Closes gs (below (below r.trees)) (41 ∷ w) (choice (top (below r.trees)) (top r.trees)) t
    → Taken (closed_by gs r) w t
closed_begins [] r w t h = absurd (cc (h.0))
closed_begins (Group ∷ gs) r w t h =
    let tails : h.0 ≡ w = cc (h.1) in
    let s : Reading = at Atom (chosen (record r {
      groups = gs;
      products = products_below r.products;
      product =
          top_product r.products;
      atom_product = r.product;
    })) in
    (s, refl, subst (λ (v : List ℕ). Completes s v t) tails h.2)
closed_begins (Ahead negated ∷ gs) r w t h =
    let tails : h.0 ≡ w = cc (h.1) in
    let lower = below (below r.trees) in
    let s : Reading = at Term (joined (record r {
      groups = gs;
      products = products_below r.products;
      product =
          max r.product (top_product r.products);
      trees =
          lookahead negated (choice (top (below r.trees)) (top r.trees)) ∷ lower;
    })) in
    (s, refl, subst (λ (v : List ℕ). Completes s v t) tails h.2)

-- what stands in front: the end of the alternatives, a bar, or a term
front : (ts : List Tree) (gs : List Open) (t : Tree) (c : ℕ) (w : List ℕ) (h : Tree) (out : List ℕ)
    → Reads (alternatives (top (below ts)) (top ts) h) (c ∷ w) out → Closes gs (below (below ts)) out h t
    → Closes gs (below (below ts)) (c ∷ w) (choice (top (below ts)) (top ts)) t
    ⊎ (((c ≡ 124) × InTerm (nothing ∷ choice (top (below ts)) (top ts) ∷ below (below ts)) gs w t)
    ⊎ FirstTerm ts gs (c ∷ w) t)
front ts gs t c w h out ends k = inl k
front ts gs t c w h out (bar b) k = inr (inl (refl, (out, h, b, k)))
front ts gs t c w h out (followed {t = u} {mid = mid} a b) k = inr (inr (u, mid, a, (out, h, b, k)))

-- where a term may begin
pub term_taken : (r : Reading) (c : ℕ) (w : List ℕ) (t : Tree) → InTerm r.trees r.groups (c ∷ w) t → BeginsTerm r c w t
term_taken r c w t i = by_front (front r.trees r.groups t c w i.1 i.0 i.2 i.3)
  where
    at_bar : InTerm (nothing ∷ choice (top (below r.trees)) (top r.trees) ∷ below (below r.trees)) r.groups w t
        → BeginsTerm r 124 w t
    at_bar k = begins_term 124 r w t (refl, refl, refl) refl (at Term (leaf nothing (chosen r)), refl, k)

    at_close : Closes r.groups (below (below r.trees)) (41 ∷ w) (choice (top (below r.trees)) (top r.trees)) t
        → BeginsTerm r 41 w t
    at_close k = begins_term 41 r w t (refl, refl, refl) refl (closed_begins r.groups r w t k)

    by_front : Closes r.groups (below (below r.trees)) (c ∷ w) (choice (top (below r.trees)) (top r.trees)) t
        ⊎ (((c ≡ 124) × InTerm (nothing ∷ choice (top (below r.trees)) (top r.trees) ∷ below (below r.trees)) r.groups w
        t) ⊎ FirstTerm r.trees r.groups (c ∷ w) t) → BeginsTerm r c w t
    by_front (inl k) =
        let is = closes_at r.groups (below (below r.trees)) c w (choice (top (below r.trees)) (top r.trees)) t k in
        subst (λ (d : ℕ). BeginsTerm r d w t) (sym is) (at_close
        (subst (λ (d : ℕ). Closes r.groups (below (below r.trees)) (d ∷ w)
        (choice (top (below r.trees)) (top r.trees)) t) is k))
    by_front (inr (inl k)) = subst (λ (d : ℕ). BeginsTerm r d w t) (sym k.0) (at_bar k.1)
    by_front (inr (inr k)) = term_begins r c w t k.0 k.1 k.2 k.3

-- a character with which a term begins is taken, also where a quantifier is looked for first
plain_taken : (may_be_lazy : Bool) (c : ℕ) (r : Reading) (w : List ℕ) (t : Tree) → InTerm r.trees r.groups (c ∷ w) t
    → Taken (plain false may_be_lazy c r) w t
plain_taken may_be_lazy c r w t i = by_brace (c == 123) refl (term_taken r c w t i)
  where
    by_brace : (b : Bool) → c == 123 ≡ b → BeginsTerm r c w t → Taken (plain false may_be_lazy c r) w t
    by_brace true e h = (
      at (Braces false) (record r { braces = [] }),
      rw (h.0.0, h.0.1, h.0.2, e) refl,
      λ inner. subst (λ (d : ℕ). InTerm r.trees r.groups (d ∷ w) t) (eqb-true c 123 e) i,
    )
    by_brace false e h = (h.2.0, rw (h.0.0, h.0.1, h.0.2, e) h.2.1, h.2.2)

-- where a term may begin, after an atom
settled_taken : (c : ℕ) (r : Reading) (w : List ℕ) (t : Tree) → InTerm (with_term r).trees r.groups (c ∷ w) t
    → Taken (plain true false c r) w t
settled_taken c r w t i = by_brace (c == 123) refl (term_taken (with_term r) c w t i)
  where
    by_brace : (b : Bool) → c == 123 ≡ b → BeginsTerm (with_term r) c w t → Taken (plain true false c r) w t
    by_brace true e h = (
      at (Braces true) (record r { braces = [] }),
      rw (h.0.0, h.0.1, h.0.2, e) refl,
      λ inner. unsuffixed (below r.trees) r.groups t (top r.trees) (123 ∷ w)
          (subst (λ (d : ℕ). InTerm (with_term r).trees r.groups (d ∷ w) t) (eqb-true c 123 e) i),
    )
    by_brace false e h = (h.2.0, rw (h.0.0, h.0.1, h.0.2, e) h.2.1, h.2.2)

-- after an atom, a quantifier, or where a term may begin
suffix_taken : (c : ℕ) (r : Reading) (w : List ℕ) (t u : Tree) (after : List ℕ) → Suffix (top r.trees) u (c ∷ w) after
    → InTerm (sequence (top (below r.trees)) u ∷ below (below r.trees)) r.groups after t
    → Taken (plain true false c r) w t
suffix_taken c r w t u after no_suffix i = settled_taken c r w t i
suffix_taken c r w t u after (greedy_suffix star_mark) i = (quantified 0 None (charged r.atom_product r), refl, inl i)
suffix_taken c r w t u after (greedy_suffix plus_mark) i = (quantified 1 None (charged r.atom_product r), refl, inl i)
suffix_taken c r w t u after (greedy_suffix question_mark) i =
    (quantified 0 (Some 1) (charged r.atom_product r), refl, inl i)
suffix_taken c r w t u after (greedy_suffix (braces_mark bounds b)) i =
    (at (Braces true) (record r { braces = [] }), refl, λ inner. (u, after, greedy_suffix (braces_mark bounds b), i))
suffix_taken c r w t u after (lazy_suffix star_mark) i =
    (quantified 0 None (charged r.atom_product r), refl, inr (after, refl, i))
suffix_taken c r w t u after (lazy_suffix plus_mark) i =
    (quantified 1 None (charged r.atom_product r), refl, inr (after, refl, i))
suffix_taken c r w t u after (lazy_suffix question_mark) i =
    (quantified 0 (Some 1) (charged r.atom_product r), refl, inr (after, refl, i))
suffix_taken c r w t u after (lazy_suffix (braces_mark bounds b)) i =
    (at (Braces true) (record r { braces = [] }), refl, λ inner. (u, after, lazy_suffix (braces_mark bounds b), i))

-- where a term may begin, after an atom or not
base_taken : (after_atom : Bool) (c : ℕ) (r : Reading) (w : List ℕ) (t : Tree) → Base after_atom r (c ∷ w) t
    → Taken (plain after_atom false c r) w t
base_taken true c r w t h = suffix_taken c r w t h.0 h.1 h.2 h.3
base_taken false c r w t h = plain_taken false c r w t h

-- what completes a reading in one of these modes, with a character in front, is taken: here where a term may begin
pub taking_term : (c : ℕ) (r : Reading) (w : List ℕ) (t : Tree) → r.mode ≡ Term → CompletesIn Term r (c ∷ w) t
    → Taken (step_in Term c r) w t
taking_term c r w t m h = plain_taken false c r w t h

-- after an atom
pub taking_atom : (c : ℕ) (r : Reading) (w : List ℕ) (t : Tree) → r.mode ≡ Atom → CompletesIn Atom r (c ∷ w) t
    → Taken (step_in Atom c r) w t
taking_atom c r w t m h = base_taken true c r w t h

-- after a quantifier a `?` may stand
pub taking_quantified : (c : ℕ) (r : Reading) (w : List ℕ) (t : Tree) → r.mode ≡ Quantified
    → CompletesIn Quantified r (c ∷ w) t → Taken (step_in Quantified c r) w t
taking_quantified c r w t m (inl i) = plain_taken true c r w t i
taking_quantified c r w t m (inr l) =
    let heads : 63 ≡ c = cc (l.1) in
    let tails : l.0 ≡ w = cc (l.1) in
    subst (λ (d : ℕ). Taken (plain false true d r) w t) heads
    (at Term r, refl, subst (λ (v : List ℕ). InTerm r.trees r.groups v t) tails l.2)

-- after `\0` no digit may stand
pub taking_zero : (c : ℕ) (r : Reading) (w : List ℕ) (t : Tree) → r.mode ≡ Zero → CompletesIn Zero r (c ∷ w) t
    → Taken (step_in Zero c r) w t
taking_zero c r w t m h = by_digit (is_ascii_digit c) refl (base_taken true c r w t h.1)
  where
    by_digit : (b : Bool) → is_ascii_digit c ≡ b → Taken (plain true false c r) w t
        → Taken (cond (is_ascii_digit c) None (plain true false c r)) w t
    by_digit true e k = absurd (h.0 e)
    by_digit false e k = subst (λ (b : Bool). Taken (cond b None (plain true false c r)) w t) (sym e) k

-- what neither ends nor parts alternatives begins a term
pub first_term : (ts : List Tree) (gs : List Open) (t : Tree) (c : ℕ) (w : List ℕ) → (c ≡ 41 → ⊥) → (c ≡ 124 → ⊥)
    → InTerm ts gs (c ∷ w) t → FirstTerm ts gs (c ∷ w) t
first_term ts gs t c w n41 n124 i = by_front (front ts gs t c w i.1 i.0 i.2 i.3)
  where
    by_front : Closes gs (below (below ts)) (c ∷ w) (choice (top (below ts)) (top ts)) t
        ⊎ (((c ≡ 124) × InTerm (nothing ∷ choice (top (below ts)) (top ts) ∷ below (below ts)) gs w t)
        ⊎ FirstTerm ts gs (c ∷ w) t) → FirstTerm ts gs (c ∷ w) t
    by_front (inl k) = absurd (n41 (closes_at gs (below (below ts)) c w (choice (top (below ts)) (top ts)) t k))
    by_front (inr (inl k)) = absurd (n124 k.0)
    by_front (inr (inr k)) = k

-- a letter of an escape is none that has no escape
pub no_escape : (c k v : ℕ) → escaped c ≡ Some v → escaped k ≡ None → c == k ≡ false
no_escape c k v h n = ne_eqb c k (λ e. none-some v (sym n ∙ ap escaped (sym e) ∙ h))

-- an escape of one character
char_escape_taken : (c : ℕ) (r : Reading) (w : List ℕ) (t : Tree) (k : ℕ) (mid : List ℕ) → CharEscape k (c ∷ w) mid
    → AfterAtom (char k) r.trees r.groups mid t → Taken (with_set (set_of c) c r) w t
char_escape_taken c r w t k mid (named h) i = (
  with_atom (char k) r,
  rw (
    apart 100 refl,
    apart 68 refl,
    apart 119 refl,
    apart 87 refl,
    apart 115 refl,
    apart 83 refl,
    apart 98 refl,
    apart 66 refl,
    apart 120 refl,
    apart 117 refl,
    apart 48 refl,
  )
      (ap (λ (o : Option ℕ). with_char o r) h),
  i,
)
  where
    apart : (j : ℕ) → escaped j ≡ None → c == j ≡ false
    apart j n = no_escape c j k h n
char_escape_taken c r w t k mid (zero_char n) i = (at Zero (with_atom (char 0) r), refl, (n, i))
char_escape_taken c r w t k mid (two_digits h) i = (at (modes.Hex 0 2) r, refl, (k, mid, h, two_small w mid k h, i))
char_escape_taken c r w t k mid (four_digits h n) i = (at (modes.Hex 0 4) r, refl, (k, mid, h, n, i))

-- an escape that is an atom
escape_atom_taken : (c : ℕ) (r : Reading) (w : List ℕ) (t a : Tree) (mid : List ℕ) → Reads (atom a) (92 ∷ c ∷ w) mid
    → AfterAtom a r.trees r.groups mid t → Taken (with_set (set_of c) c r) w t
escape_atom_taken c r w t a mid (set_escape {ranges = ranges} e) i =
    (with_atom (one_of false ranges) r, ap (λ (o : Option (List CharRange)). with_set o c r) e, i)
escape_atom_taken c r w t a mid (char_escape {c = k} e) i = char_escape_taken c r w t k mid e i
escape_atom_taken c r w t a mid (ordinary h n) i = absurd (false≢true h)

-- an escape that is a term
escape_term_taken : (c : ℕ) (r : Reading) (w : List ℕ) (t u : Tree) (mid : List ℕ) → Reads (term u) (92 ∷ c ∷ w) mid
    → InTerm (sequence (top r.trees) u ∷ below r.trees) r.groups mid t → Taken (with_set (set_of c) c r) w t
escape_term_taken c r w t u mid at_boundary i = (asserted (word_boundary false) r, refl, i)
escape_term_taken c r w t u mid at_no_boundary i = (asserted (word_boundary true) r, refl, i)
escape_term_taken c r w t u mid (once a) i = escape_atom_taken c r w t u mid a (u, mid, no_suffix, i)
escape_term_taken c r w t u mid (greedy {t = b} {mid = after} a m) i =
    escape_atom_taken c r w t b after a (u, mid, greedy_suffix m, i)
escape_term_taken c r w t u mid (lazy {t = b} {mid = after} a m) i =
    escape_atom_taken c r w t b after a (u, mid, lazy_suffix m, i)

-- what completes a reading after a backslash
pub taking_escape : (c : ℕ) (r : Reading) (w : List ℕ) (t : Tree) → r.mode ≡ Escape → CompletesIn Escape r (c ∷ w) t
    → Taken (step_in Escape c r) w t
taking_escape c r w t m h = let f = first_term r.trees r.groups t 92 (c ∷ w) (eqb-false 92 41 refl)
    (eqb-false 92 124 refl) h in escape_term_taken c r w t f.0 f.1 f.2 f.3

-- a group's alternatives
pub group_opened : (r : Reading) (w : List ℕ) (t a : Tree) (mid : List ℕ)
    → Reads (alternatives never nothing a) w (41 ∷ mid) → AfterAtom a r.trees r.groups mid t
    → InTerm (opened Group r).trees (opened Group r).groups w t
group_opened r w t a mid b i = (41 ∷ mid, a, b, (mid, refl, i))

-- a lookahead's alternatives
ahead_opened : (negated : Bool) (r : Reading) (w : List ℕ) (t a : Tree) (mid : List ℕ)
    → Reads (alternatives never nothing a) w (41 ∷ mid)
    → InTerm (sequence (top r.trees) (lookahead negated a) ∷ below r.trees) r.groups mid t
    → InTerm (opened (Ahead negated) r).trees (opened (Ahead negated) r).groups w t
ahead_opened negated r w t a mid b i = (41 ∷ mid, a, b, (mid, refl, i))

-- a group that is an atom, and doesn't begin with `(?`
paren_atom : (c : ℕ) (r : Reading) (w : List ℕ) (t a : Tree) (mid : List ℕ) → c == 63 ≡ false
    → Reads (atom a) (40 ∷ c ∷ w) mid → AfterAtom a r.trees r.groups mid t
    → InTerm (opened Group r).trees (opened Group r).groups (c ∷ w) t
paren_atom c r w t a mid n (group b) i = group_opened r (c ∷ w) t a mid b i
paren_atom c r w t a mid n (bare_group b) i = absurd (false≢true (sym n))
paren_atom c r w t a mid n (ordinary h k) i = absurd (false≢true h)

-- such a group that begins a term
paren_term : (c : ℕ) (r : Reading) (w : List ℕ) (t u : Tree) (mid : List ℕ) → c == 63 ≡ false
    → Reads (term u) (40 ∷ c ∷ w) mid → InTerm (sequence (top r.trees) u ∷ below r.trees) r.groups mid t
    → InTerm (opened Group r).trees (opened Group r).groups (c ∷ w) t
paren_term c r w t u mid n (ahead b) i = absurd (false≢true (sym n))
paren_term c r w t u mid n (not_ahead b) i = absurd (false≢true (sym n))
paren_term c r w t u mid n (once a) i = paren_atom c r w t u mid n a (u, mid, no_suffix, i)
paren_term c r w t u mid n (greedy {t = b} {mid = after} a m) i =
    paren_atom c r w t b after n a (u, mid, greedy_suffix m, i)
paren_term c r w t u mid n (lazy {t = b} {mid = after} a m) i =
    paren_atom c r w t b after n a (u, mid, lazy_suffix m, i)

-- what completes a reading after `(`
pub taking_paren : (c : ℕ) (r : Reading) (w : List ℕ) (t : Tree) → r.mode ≡ Paren → CompletesIn Paren r (c ∷ w) t
    → Taken (step_in Paren c r) w t
taking_paren c r w t m h = by_question (c == 63) refl
  where
    by_question : (b : Bool) → c == 63 ≡ b → Taken (cond (c == 63) (Some (at ParenQuestion r))
        (plain false false c (opened Group r))) w t
    by_question true e =
        (at ParenQuestion r, rw e refl, subst (λ (d : ℕ). InTerm r.trees r.groups (40 ∷ d ∷ w) t) (eqb-true c 63 e) h)
    by_question false e =
        let f = first_term r.trees r.groups t 40 (c ∷ w) (eqb-false 40 41 refl) (eqb-false 40 124 refl) h in
        subst (λ (b : Bool). Taken (cond b (Some (at ParenQuestion r)) (plain false false c (opened Group r))) w t)
        (sym e) (plain_taken false c (opened Group r) w t (paren_term c r w t f.0 f.1 e f.2 f.3))

-- what begins with `(?` as an atom
question_atom : (c : ℕ) (r : Reading) (w : List ℕ) (t a : Tree) (mid : List ℕ) → Reads (atom a) (40 ∷ 63 ∷ c ∷ w) mid
    → AfterAtom a r.trees r.groups mid t → Taken (step_in ParenQuestion c r) w t
question_atom c r w t a mid (group b) i = let k =
    term_taken (opened Group r) 63 (c ∷ w) t (group_opened r (63 ∷ c ∷ w) t a mid b i) in
    absurd (false≢true (sym k.0.2))
question_atom c r w t a mid (bare_group b) i = (opened Group r, refl, group_opened r w t a mid b i)
question_atom c r w t a mid (ordinary h k) i = absurd (false≢true h)

-- what begins with `(?` as a term
question_term : (c : ℕ) (r : Reading) (w : List ℕ) (t u : Tree) (mid : List ℕ) → Reads (term u) (40 ∷ 63 ∷ c ∷ w) mid
    → InTerm (sequence (top r.trees) u ∷ below r.trees) r.groups mid t → Taken (step_in ParenQuestion c r) w t
question_term c r w t u mid (ahead {t = g} b) i = (opened (Ahead false) r, refl, ahead_opened false r w t g mid b i)
question_term c r w t u mid (not_ahead {t = g} b) i = (opened (Ahead true) r, refl, ahead_opened true r w t g mid b i)
question_term c r w t u mid (once a) i = question_atom c r w t u mid a (u, mid, no_suffix, i)
question_term c r w t u mid (greedy {t = b} {mid = after} a m) i =
    question_atom c r w t b after a (u, mid, greedy_suffix m, i)
question_term c r w t u mid (lazy {t = b} {mid = after} a m) i =
    question_atom c r w t b after a (u, mid, lazy_suffix m, i)

-- what completes a reading after `(?`
pub taking_paren_question : (c : ℕ) (r : Reading) (w : List ℕ) (t : Tree) → r.mode ≡ ParenQuestion
    → CompletesIn ParenQuestion r (c ∷ w) t → Taken (step_in ParenQuestion c r) w t
taking_paren_question c r w t m h = let f = first_term r.trees r.groups t 40 (63 ∷ c ∷ w) (eqb-false 40 41 refl)
    (eqb-false 40 124 refl) h in question_term c r w t f.0 f.1 f.2 f.3

-- two runs of digits and commas that end in `}` are the same
same_braces : (b bs rest w : List ℕ) → AllInner b → AllInner bs → b ++ 125 ∷ rest ≡ bs ++ 125 ∷ w → (b ≡ bs)
    × (rest ≡ w)
same_braces [] [] rest w hb hbs e = (refl, cc)
same_braces [] (y ∷ bs) rest w hb hbs e = absurd (inner_no_end y hbs.0 cc)
same_braces (x ∷ b) [] rest w hb hbs e = absurd (inner_no_end x hb.0 cc)
same_braces (x ∷ b) (y ∷ bs) rest w hb hbs e =
    let tails = same_braces b bs rest w hb.1 hbs.1 cc in let heads : x ≡ y = cc in (cc (heads, tails.0), tails.1)

-- no quantifier follows the atom
unmarked : (ts : List Tree) (gs : List Open) (t a u : Tree) (c : ℕ) (w after : List ℕ) → NoMark c
    → (BeginsBraces (c ∷ w) → ⊥) → Suffix a u (c ∷ w) after → InTerm (sequence (top ts) u ∷ below ts) gs after t
    → InTerm (sequence (top ts) a ∷ below ts) gs (c ∷ w) t
unmarked ts gs t a u c w after n k no_suffix i = i
unmarked ts gs t a u c w after n k (greedy_suffix star_mark) i = absurd (false≢true (sym n.0))
unmarked ts gs t a u c w after n k (greedy_suffix plus_mark) i = absurd (false≢true (sym n.1))
unmarked ts gs t a u c w after n k (greedy_suffix question_mark) i = absurd (false≢true (sym n.2))
unmarked ts gs t a u c w after n k (greedy_suffix (braces_mark bounds {least = least} {most = most} b)) i =
    absurd (k (bounds, after, least, most, b, refl))
unmarked ts gs t a u c w after n k (lazy_suffix star_mark) i = absurd (false≢true (sym n.0))
unmarked ts gs t a u c w after n k (lazy_suffix plus_mark) i = absurd (false≢true (sym n.1))
unmarked ts gs t a u c w after n k (lazy_suffix question_mark) i = absurd (false≢true (sym n.2))
unmarked ts gs t a u c w after n k (lazy_suffix (braces_mark bounds {least = least} {most = most} b)) i =
    absurd (k (bounds, 63 ∷ after, least, most, b, refl))

-- a character that stands for itself is an atom
itself_taken : (r : Reading) (c : ℕ) (w : List ℕ) (t : Tree) → is_plain c ≡ true → InTerm r.trees r.groups (c ∷ w) t
    → AfterAtom (char c) r.trees r.groups w t
itself_taken r c w t h i = let k = term_taken r c w t i in
    completes_at (with_atom (char c) r) k.2.0 w t (sym (plain_begun r c h) ∙ k.2.1) k.2.2

-- digits and commas stand for themselves, and mark no quantifier
inner_plain : (c : ℕ) → (is_ascii_digit c ≡ true) ⊎ (c ≡ 44) → (is_plain c ≡ true) × NoMark c × (c == 123 ≡ false)
inner_plain c (inl d) = let h = digit_plain c d in (
  h,
  (apart_by is_plain c 42 h refl, apart_by is_plain c 43 h refl, apart_by is_plain c 63 h refl),
  apart_by is_ascii_digit c 123 d refl,
)
inner_plain c (inr e) =
    subst (λ (k : ℕ). (is_plain k ≡ true) × NoMark k × (k == 123 ≡ false)) (sym e) (refl, (refl, refl, refl), refl)

-- the characters of braces that are no quantifier
flushed_chars_taken : (cs : List ℕ) (r : Reading) (rest : List ℕ) (t : Tree) → AllInner cs
    → AfterAtom (top r.trees) (below r.trees) r.groups (cs ++ rest) t
    → AfterAtom (top (flushed_chars cs r).trees) (below (flushed_chars cs r).trees) (flushed_chars cs r).groups rest t
flushed_chars_taken [] r rest t h a = a
flushed_chars_taken (c ∷ cs) r rest t h a =
    let p = inner_plain c h.0 in
    let i = unmarked (below r.trees) r.groups t (top r.trees) a.0 c (cs ++ rest) a.1 p.1
    (no_braces c (cs ++ rest) (eqb-false c 123 p.2)) a.2 a.3 in
    flushed_chars_taken cs (with_atom (char c) (with_term r)) rest t h.1
    (itself_taken (with_term r) c (cs ++ rest) t p.0 i)

-- braces that are no quantifier
pub flushed_taken : (after_atom : Bool) (r : Reading) (rest : List ℕ) (t : Tree) → AllInner r.braces
    → (BeginsBraces (123 ∷ (r.braces ++ rest)) → ⊥) → Base after_atom r (123 ∷ (r.braces ++ rest)) t
    → AfterAtom (top (flushed after_atom r).trees) (below (flushed after_atom r).trees) (flushed after_atom r).groups
    rest t
flushed_taken true r rest t h no_b a =
    let i = unmarked (below r.trees) r.groups t (top r.trees) a.0 123 (r.braces ++ rest) a.1 (refl, refl, refl) no_b a.2
    a.3 in
    flushed_chars_taken r.braces (record (with_atom (char 123) (with_term r)) { braces = [] }) rest t h
    (itself_taken (with_term r) 123 (r.braces ++ rest) t refl i)
flushed_taken false r rest t h no_b i = flushed_chars_taken r.braces (record (with_atom (char 123) r) { braces = [] })
    rest t h (itself_taken r 123 (r.braces ++ rest) t refl i)

-- after an atom and its quantifier in braces
abbrev pub counted : Reading → ℕ → Option ℕ → Reading
counted r n k = quantified n k (charged (r.atom_product * count_of n k) r)

-- the end of braces that are a quantifier, after an atom
counted_taken : (r : Reading) (text w : List ℕ) (t u : Tree) (after : List ℕ) → text ≡ r.braces ++ 125 ∷ w
    → AllInner r.braces → (n : ℕ) (k : Option ℕ) → bounds_of r.braces ≡ Some (n, k)
    → Suffix (top r.trees) u (123 ∷ text) after
    → InTerm (sequence (top (below r.trees)) u ∷ below (below r.trees)) r.groups after t
    → Taken (in_braces_end (bounds_of r.braces) true 125 r) w t
counted_taken r text w t u after e inner n k b no_suffix i =
    absurd ((term_taken (with_term r) 123 text t i).1 (
      r.braces,
      w,
      n,
      k,
      bounds_sound r.braces n k b,
      ap (λ (v : List ℕ). 123 ∷ v) e,
    ))
counted_taken r text w t u after e inner n k b (greedy_suffix (braces_mark bounds {least = least} {most = most} h)) i =
    let same = same_braces bounds r.braces after w (bounds_inner bounds least most h) inner e in
    let is : bounds_of r.braces ≡ Some (least, most) =
    subst (λ (v : List ℕ). bounds_of v ≡ Some (least, most)) same.0 (bounds_complete bounds least most h) in (
      counted r least most,
      ap (λ (o : Option (ℕ × Option ℕ)). in_braces_end o true 125 r) is,
      inl (subst (λ (v : List ℕ). InTerm (counted r least most).trees r.groups v t) same.1 i),
    )
counted_taken r text w t u after e inner n k b (lazy_suffix (braces_mark bounds {least = least} {most = most} h)) i =
    let same = same_braces bounds r.braces (63 ∷ after) w (bounds_inner bounds least most h) inner e in
    let is : bounds_of r.braces ≡ Some (least, most) =
    subst (λ (v : List ℕ). bounds_of v ≡ Some (least, most)) same.0 (bounds_complete bounds least most h) in (
      counted r least most,
      ap (λ (o : Option (ℕ × Option ℕ)). in_braces_end o true 125 r) is,
      inr (after, sym same.1, i),
    )

-- braces that are a quantifier stand after an atom
bounds_taken : (after_atom : Bool) (r : Reading) (w : List ℕ) (t : Tree) → AllInner r.braces → (n : ℕ) (k : Option ℕ)
    → bounds_of r.braces ≡ Some (n, k) → Base after_atom r (123 ∷ (r.braces ++ 125 ∷ w)) t
    → Taken (in_braces_end (bounds_of r.braces) after_atom 125 r) w t
bounds_taken true r w t inner n k b a = counted_taken r (r.braces ++ 125 ∷ w) w t a.0 a.1 refl inner n k b a.2 a.3
bounds_taken false r w t inner n k b i =
    absurd ((term_taken r 123 (r.braces ++ 125 ∷ w) t i).1 (r.braces, w, n, k, bounds_sound r.braces n k b, refl))

-- braces that go on, end, or break
braces_taken : (after_atom : Bool) (c : ℕ) (r : Reading) (w : List ℕ) (t : Tree) → r.mode ≡ Braces after_atom
    → AllInner r.braces → Base after_atom r (123 ∷ (r.braces ++ c ∷ w)) t → Taken (in_braces after_atom c r) w t
braces_taken after_atom c r w t m inner h = by_inner (is_inner r.braces c) refl
  where
    more : Reading
    more = record r { braces = r.braces ++ c ∷ [] }

    same_base : (after : Bool) → Base after r (123 ∷ (r.braces ++ c ∷ w)) t
        → Base after more (123 ∷ (r.braces ++ c ∷ w)) t
    same_base true b = b
    same_base false b = b

    goes_on : Completes more w t
    goes_on = subst (λ (k : Mode). CompletesIn k more w t) (sym m)
        (λ again. subst (λ (v : List ℕ). Base after_atom more (123 ∷ v) t) (sym (append_assoc r.braces (c ∷ []) w))
        (same_base after_atom h))

    broken : is_inner r.braces c ≡ false → (c ≡ 125 → bounds_of r.braces ≡ None)
        → Taken (plain true false c (flushed after_atom r)) w t
    broken out none = base_taken true c (flushed after_atom r) w t
        (flushed_taken after_atom r (c ∷ w) t inner (breaks r.braces c w inner out none) h)

    by_bounds : (o : Option (ℕ × Option ℕ)) → bounds_of r.braces ≡ o → c == 125 ≡ true → is_inner r.braces c ≡ false
        → Taken (in_braces_end (bounds_of r.braces) after_atom c r) w t
    by_bounds None b e out = subst (λ (o : Option (ℕ × Option ℕ)). Taken (in_braces_end o after_atom c r) w t) (sym b)
        (broken out (λ e125. b))
    by_bounds (Some bounds) b e out =
        let is = eqb-true c 125 e in
        subst (λ (d : ℕ). Taken (in_braces_end (bounds_of r.braces) after_atom d r) w t) (sym is)
        (bounds_taken after_atom r w t inner bounds.0 bounds.1 b
        (subst (λ (d : ℕ). Base after_atom r (123 ∷ (r.braces ++ d ∷ w)) t) is h))

    by_end : (b : Bool) → c == 125 ≡ b → is_inner r.braces c ≡ false
        → Taken (cond b (in_braces_end (bounds_of r.braces) after_atom c r) (plain true false c (flushed after_atom r)))
        w t
    by_end true e out = by_bounds (bounds_of r.braces) refl e out
    by_end false e out = broken out (λ e125. absurd (eqb-false c 125 e e125))

    by_inner : (b : Bool) → is_inner r.braces c ≡ b → Taken (in_braces after_atom c r) w t
    by_inner true e = (
      more,
      ap (λ (b : Bool). cond b (Some more)
          (cond (c == 125) (in_braces_end (bounds_of r.braces) after_atom c r)
          (plain true false c (flushed after_atom r)))) e,
      goes_on,
    )
    by_inner false e = subst (λ (b : Bool). Taken (cond b (Some more)
        (cond (c == 125) (in_braces_end (bounds_of r.braces) after_atom c r)
        (plain true false c (flushed after_atom r)))) w t) (sym e) (by_end (c == 125) refl e)

-- what completes a reading in braces
pub taking_braces : (after_atom : Bool) (c : ℕ) (r : Reading) (w : List ℕ) (t : Tree) → r.mode ≡ Braces after_atom
    → AllInner r.braces → CompletesIn (Braces after_atom) r (c ∷ w) t → Taken (step_in (Braces after_atom) c r) w t
taking_braces after_atom c r w t m inner h = braces_taken after_atom c r w t m inner (h inner)
