-- What completes a reading where the text ends is finished, with the same tree.
use Rattle.std.proofs.Common.{
  ◌≡◌,
  ℕ,
  zero,
  suc,
  true,
  false,
  List,
  [],
  ◌∷◌,
  ◌++◌,
  inl,
  inr,
  Option,
  Some,
  None,
  refl,
  sym,
  ap,
  subst,
  ◌∙◌,
}
use Rattle.std.proofs.lemmas.Bool.{false≢true, eqb-false}
use Rattle.es_pattern.specs.Tree.{Tree, CharRange, nothing, sequence, choice}
use Rattle.es_pattern.specs.Pieces.{top, below}
use Rattle.es_pattern.specs.Escapes.{range}
use Rattle.es_pattern.specs.Grammar.{
  never,
  alternatives,
  term,
  atom,
  Reads,
  ClassChar,
  Before,
  FirstChar,
  RangeStart,
  RangeEnd,
  Items,
  Hex,
}
use Rattle.es_pattern.specs.Grammar.{
  itself,
  class_escape,
  bracket,
  character,
  range_or_set,
  other_char,
  first_dash,
  start_char,
  end_char,
  one_char,
  from_to,
}
use Rattle.es_pattern.specs.Grammar.{ends, followed, once, greedy, lazy, group, char_escape, ordinary}
use Rattle.es_pattern.specs.declared.mode.Open.{Open}
use Rattle.es_pattern.specs.declared.mode.Open.TheVariants.{Group, Ahead}
use Rattle.es_pattern.specs.declared.mode.Mode.{Mode}
use Rattle.es_pattern.specs.declared.mode.Mode.TheVariants.{
  Term,
  Atom,
  Quantified,
  Zero,
  Braces,
  Escape,
  Paren,
  ParenQuestion,
  ClassOpen,
  ClassFirst,
  ClassNext,
  ClassNextDash,
  ClassNextDashes,
}
use Rattle.es_pattern.specs.declared.mode.Mode.TheVariants as modes
use Rattle.es_pattern.specs.Reading.{Reading, with_term, opened, flushed, ended, finished_in}
use Rattle.es_pattern.proofs.BracesRead.{breaks_at_end}
use Rattle.es_pattern.proofs.Sound.{
  Suffix,
  no_suffix,
  greedy_suffix,
  lazy_suffix,
  Closes,
  InTerm,
  AfterAtom,
  After,
  after_one,
  after_range,
  EscapeItem,
  escape_char,
  CompletesIn,
}
use Rattle.es_pattern.proofs.Sane.{IsPartial, IsSaneIn}
use Rattle.es_pattern.proofs.TakingTerms.{first_term, flushed_taken, group_opened, term_taken}

-- no atom is empty
no_atom : (a : Tree) (mid : List ℕ) → Reads (atom a) [] mid → ⊥
no_atom a mid h = elim h [ ]

-- no term is empty
no_term : (u : Tree) (mid : List ℕ) → Reads (term u) [] mid → ⊥
no_term u mid (once a) = no_atom u mid a
no_term u mid (greedy {t = b} {mid = after} a m) = no_atom b after a
no_term u mid (lazy {t = b} {mid = after} a m) = no_atom b after a

-- no group is open where the text ends
closes_end : (gs : List Open) (ts : List Tree) (g t : Tree) → Closes gs ts [] g t → (gs ≡ []) × (g ≡ t)
closes_end [] ts g t h = (refl, h.1)
closes_end (Group ∷ gs) ts g t h = absurd (cc (h.1))
closes_end (Ahead negated ∷ gs) ts g t h = absurd (cc (h.1))

-- alternatives of an empty text are over
only_ends : (before terms h : Tree) (out : List ℕ) → Reads (alternatives before terms h) [] out
    → (h ≡ choice before terms) × (out ≡ [])
only_ends before terms h out ends = (refl, refl)
only_ends before terms h out (followed {t = u} {mid = mid} a b) = absurd (no_term u mid a)

-- the whole's alternatives end where the text ends
closed_end : (gs : List Open) (r : Reading) (h t : Tree) (out : List ℕ)
    → Reads (alternatives (top (below r.trees)) (top r.trees) h) [] out → Closes gs (below (below r.trees)) out h t
    → ended gs r ≡ Some t
closed_end gs r h t out reads k =
    let o = only_ends (top (below r.trees)) (top r.trees) h out reads in
    let c = closes_end gs (below (below r.trees)) h t (subst (λ (v : List ℕ). Closes gs (below (below r.trees)) v h t)
    o.1 k) in
    subst (λ (open_ : List Open). ended open_ r ≡ Some t) (sym c.0) (ap (λ (u : Tree). Some u) (sym o.0 ∙ c.1))

-- where a term may begin, the text may end
in_term_end : (r : Reading) (t : Tree) → InTerm r.trees r.groups [] t → ended r.groups r ≡ Some t
in_term_end r t i = closed_end r.groups r i.1 t i.0 i.2 i.3

-- after an atom no quantifier stands where the text ends
after_atom_end : (a : Tree) (ts : List Tree) (gs : List Open) (t : Tree) → AfterAtom a ts gs [] t
    → InTerm (sequence (top ts) a ∷ below ts) gs [] t
after_atom_end a ts gs t h = by_suffix h.0 h.1 h.2 h.3
  where
    by_suffix : (u : Tree) (after : List ℕ) → Suffix a u [] after → InTerm (sequence (top ts) u ∷ below ts) gs after t
        → InTerm (sequence (top ts) a ∷ below ts) gs [] t
    by_suffix u after no_suffix i = i
    by_suffix u after (greedy_suffix m) i = elim m [ ]
    by_suffix u after (lazy_suffix m) i = elim m [ ]

-- where digits are left the text doesn't end
no_hex : (first : Option ℕ) (left value c : ℕ) (mid : List ℕ) → IsPartial first value left → Hex left value [] mid c → ⊥
no_hex first zero value c mid p h = p
no_hex first (suc left) value c mid p h = cc (h.3)

-- no character of a class is empty
no_class_char : (c : ℕ) (mid : List ℕ) → ClassChar c [] mid → ⊥
no_class_char c mid h = elim h [ ]

-- nor is the first one
no_first_char : (before : Before) (c : ℕ) (mid : List ℕ) → FirstChar before c [] mid → ⊥
no_first_char before c mid (other_char h) = no_class_char c mid h

-- nor the one that begins or ends a range
no_range_start : (before : Before) (c : ℕ) (mid : List ℕ) → RangeStart before c [] mid → ⊥
no_range_start before c mid (start_char h) = no_first_char before c mid h

no_range_end : (c : ℕ) (mid : List ℕ) → RangeEnd c [] mid → ⊥
no_range_end c mid (end_char h) = no_class_char c mid h

-- nor are the items up to `]`
no_items : (before : Before) (ranges all : List CharRange) (mid : List ℕ) → Items before ranges [] mid all → ⊥
no_items before ranges all mid (one_char {c = c} {mid = after} h i) = no_first_char before c after h
no_items before ranges all mid (from_to {c = c} {mid = after} h d le i) = no_range_start before c (45 ∷ after) h

-- nor is what follows a character of a class
no_after : (c : ℕ) (ranges all : List CharRange) (mid : List ℕ) → After c ranges [] mid all → ⊥
no_after c ranges all mid (after_one i) = no_items character (ranges ++ range c c ∷ []) all mid i

-- a `-` that is no first character
no_dash_char : (c : ℕ) (mid : List ℕ) → ClassChar c (45 ∷ []) mid → ⊥
no_dash_char c mid (itself h) = false≢true (sym h)

-- a `-` alone begins no items of a class but the first
no_dash_items : (before : Before) (ranges all : List CharRange) (mid : List ℕ) → (before ≡ bracket → ⊥)
    → Items before ranges (45 ∷ []) mid all → ⊥
no_dash_items before ranges all mid apart (one_char {c = c} {mid = after} (other_char h) i) = no_dash_char c after h
no_dash_items before ranges all mid apart (one_char {c = c} {mid = after} first_dash i) = apart refl
no_dash_items before ranges all mid apart (from_to {c = c} {mid = after} (start_char (other_char h)) d le i) =
    no_dash_char c (45 ∷ after) h

-- nor does it follow a character of a class
no_after_dash : (c : ℕ) (ranges all : List CharRange) (mid : List ℕ) → After c ranges (45 ∷ []) mid all → ⊥
no_after_dash c ranges all mid (after_one i) = no_dash_items character (ranges ++ range c c ∷ []) all mid (λ e. cc) i
no_after_dash c ranges all mid (after_range {d = d} {after = after} h le i) = no_range_end d after h

-- a backslash alone is no character of a class
no_escape_char : (c : ℕ) (mid : List ℕ) → ClassChar c (92 ∷ []) mid → ⊥
no_escape_char c mid (itself h) = false≢true (sym h)
no_escape_char c mid (class_escape h) = elim h [ ]

-- nor an item
no_escape_item : (ranges all : List CharRange) (mid : List ℕ) → EscapeItem ranges [] mid all → ⊥
no_escape_item ranges all mid (escape_char {c = c} {mid = after} h a) = no_escape_char c after h

-- an escape or a group needs more than one character
no_escape_atom : (a : Tree) (mid : List ℕ) → Reads (atom a) (92 ∷ []) mid → ⊥
no_escape_atom a mid (char_escape h) = elim h [ ]
no_escape_atom a mid (ordinary h k) = false≢true h

no_escape_term : (u : Tree) (mid : List ℕ) → Reads (term u) (92 ∷ []) mid → ⊥
no_escape_term u mid (once a) = no_escape_atom u mid a
no_escape_term u mid (greedy {t = b} {mid = after} a m) = no_escape_atom b after a
no_escape_term u mid (lazy {t = b} {mid = after} a m) = no_escape_atom b after a

-- no group's alternatives are empty, as its `)` stands after them
no_group : (before terms h : Tree) (rest : List ℕ) → Reads (alternatives before terms h) [] (41 ∷ rest) → ⊥
no_group before terms h rest b = let o = only_ends before terms h (41 ∷ rest) b in cc (o.1)

no_paren_atom : (a : Tree) (mid : List ℕ) → Reads (atom a) (40 ∷ []) mid → ⊥
no_paren_atom a mid (group b) = no_group never nothing a mid b
no_paren_atom a mid (ordinary h k) = false≢true h

no_paren_term : (u : Tree) (mid : List ℕ) → Reads (term u) (40 ∷ []) mid → ⊥
no_paren_term u mid (once a) = no_paren_atom u mid a
no_paren_term u mid (greedy {t = b} {mid = after} a m) = no_paren_atom b after a
no_paren_term u mid (lazy {t = b} {mid = after} a m) = no_paren_atom b after a

no_question_atom : (r : Reading) (t a : Tree) (mid : List ℕ) → Reads (atom a) (40 ∷ 63 ∷ []) mid
    → AfterAtom a r.trees r.groups mid t → ⊥
no_question_atom r t a mid (group b) i =
    let k = term_taken (opened Group r) 63 [] t (group_opened r (63 ∷ []) t a mid b i) in false≢true (sym k.0.2)
no_question_atom r t a mid (ordinary h k) i = false≢true h

no_question_term : (r : Reading) (t u : Tree) (mid : List ℕ) → Reads (term u) (40 ∷ 63 ∷ []) mid
    → InTerm (sequence (top r.trees) u ∷ below r.trees) r.groups mid t → ⊥
no_question_term r t u mid (once a) i = no_question_atom r t u mid a (u, mid, no_suffix, i)
no_question_term r t u mid (greedy {t = b} {mid = after} a m) i =
    no_question_atom r t b after a (u, mid, greedy_suffix m, i)
no_question_term r t u mid (lazy {t = b} {mid = after} a m) i =
    no_question_atom r t b after a (u, mid, lazy_suffix m, i)

-- what completes a reading where the text ends is finished
pub taking_end : (m : Mode) (r : Reading) (t : Tree) → r.mode ≡ m → IsSaneIn m r → CompletesIn m r [] t
    → finished_in m r ≡ Some t
taking_end Term r t e s h = in_term_end r t h
taking_end Atom r t e s h = in_term_end (with_term r) t (after_atom_end (top r.trees) (below r.trees) r.groups t h)
taking_end Quantified r t e s (inl i) = in_term_end r t i
taking_end Quantified r t e s (inr l) = absurd (cc (l.1))
taking_end Zero r t e s h = in_term_end (with_term r) t (after_atom_end (top r.trees) (below r.trees) r.groups t h.1)
taking_end (Braces after_atom) r t e s h =
    let f = flushed after_atom r in
    in_term_end (with_term f) t (after_atom_end (top f.trees) (below f.trees) f.groups t
    (flushed_taken after_atom r [] t s (breaks_at_end r.braces s) (h s)))
taking_end Escape r t e s h = let f = first_term r.trees r.groups t 92 [] (eqb-false 92 41 refl) (eqb-false 92 124 refl)
    h in absurd (no_escape_term f.0 f.1 f.2)
taking_end (modes.Hex value left) r t e s h = absurd (no_hex None left value h.0 h.1 s h.2)
taking_end Paren r t e s h = let f = first_term r.trees r.groups t 40 [] (eqb-false 40 41 refl) (eqb-false 40 124 refl)
    h in absurd (no_paren_term f.0 f.1 f.2)
taking_end ParenQuestion r t e s h = let f = first_term r.trees r.groups t 40 (63 ∷ []) (eqb-false 40 41 refl)
    (eqb-false 40 124 refl) h in absurd (no_question_term r t f.0 f.1 f.2 f.3)
taking_end ClassOpen r t e s (inl h) = absurd (no_items bracket r.ranges h.1.0 h.1.1 h.1.2)
taking_end ClassOpen r t e s (inr h) = absurd (cc (h.1))
taking_end ClassFirst r t e s h = absurd (no_items bracket r.ranges h.0 h.1 h.2)
taking_end ClassNext r t e s h = absurd (no_items range_or_set r.ranges h.0 h.1 h.2)
taking_end ClassNextDash r t e s h = absurd (no_dash_items range_or_set r.ranges h.0 h.1 (λ y. cc) h.2)
taking_end ClassNextDashes r t e s h = absurd (no_range_end h.2 h.3 h.4)
taking_end (modes.ClassChar c) r t e s h = absurd (no_after c r.ranges h.0 h.1 h.2)
taking_end (modes.ClassDash c) r t e s h = absurd (no_after_dash c r.ranges h.0 h.1 h.2)
taking_end (modes.ClassZero true) r t e s h = absurd (no_items range_or_set r.ranges h.1.0 h.1.1 h.1.2)
taking_end (modes.ClassZero false) r t e s h = absurd (no_after 0 r.ranges h.1.0 h.1.1 h.1.2)
taking_end (modes.ClassEscape None) r t e s h = absurd (no_escape_item r.ranges h.0 h.1 h.2)
taking_end (modes.ClassEscape (Some c)) r t e s h = absurd (no_escape_char h.2 h.3 h.4)
taking_end (modes.ClassHex first value left) r t e s h = absurd (no_hex first left value h.2 h.3 s h.4)
