-- Each state that a text leads to is completed by some rest of a text, to a pattern that passes no limit by itself.
use Rattle.std.proofs.Common.{
  ◌≡◌,
  ℕ,
  zero,
  suc,
  ◌+◌,
  ◌*◌,
  ◌<◌,
  ◌≤◌,
  Bool,
  true,
  false,
  cond,
  List,
  [],
  ◌∷◌,
  ◌++◌,
  inl,
  Option,
  Some,
  None,
  refl,
  subst,
  arith,
}
use Rattle.std.specs.Prelude.{◌==◌}
use Rattle.std.proofs.lemmas.Bool.Decides.{nat_tests}
use Rattle.es_pattern.specs.Tree.{Tree, CharRange, nothing, one_of, word_boundary, sequence, choice, lookahead}
use Rattle.es_pattern.specs.Pieces.{top, below}
use Rattle.es_pattern.specs.Escapes.{range, is_surrogate}
use Rattle.es_pattern.specs.Grammar.{
  never,
  char,
  BeginsBraces,
  BeginsDigit,
  Hex,
  four_digits,
  class_escape,
  backspace,
  end_dash,
  no_item,
  last_dash,
  ends,
  at_boundary,
  group,
  bare_group,
}
use Rattle.es_pattern.specs.Limits.{product_of}
use Rattle.es_pattern.specs.declared.mode.Open.{Open}
use Rattle.es_pattern.specs.declared.mode.Open.TheVariants.{Group, Ahead}
use Rattle.es_pattern.specs.declared.mode.Mode.{Mode}
use Rattle.es_pattern.specs.declared.mode.Mode.TheVariants.{
  Term,
  Atom,
  Quantified,
  Zero,
  Braces,
  Escape,
  Paren,
  ParenQuestion,
  ClassOpen,
  ClassFirst,
  ClassNext,
  ClassNextDash,
  ClassNextDashes,
}
use Rattle.es_pattern.specs.declared.mode.Mode.TheVariants as modes
use Rattle.es_pattern.specs.Reading.{Reading, flushed, flushed_chars, with_atom, with_term, products_below}
use Rattle.es_pattern.proofs.BracesRead.{AllInner, breaks, breaks_at_end}
use Rattle.es_pattern.proofs.Sound.{
  Closes,
  InTerm,
  AfterAtom,
  AfterClass,
  CompletesIn,
  Completes,
  no_suffix,
  after_one,
  escape_char,
  term_next,
  atom_next,
  unsuffixed,
  flushed_next,
}
use Rattle.es_pattern.proofs.Sane.{
  CanEnd,
  IsPartial,
  greatest_of_three,
  IsSaneIn,
  IsSane,
  Outer,
  MeasuredOpen,
  MeasuredBase,
  after_atom_in,
  IsMeasured,
}

-- what closes the groups that are open
abbrev closers : List Open → List ℕ
closers [] = []
closers (g ∷ gs) = 41 ∷ closers gs

-- the trees of the open alternatives are within the limit
abbrev SmallOuter : List Open → List Tree → Type 0
SmallOuter [] ts = Unit {0}
SmallOuter (g ∷ gs) ts =
    (product_of (top ts) ≤ 100000) × (product_of (top (below ts)) ≤ 100000) × SmallOuter gs (below (below ts))

abbrev SmallOpen : List Open → List Tree → Type 0
SmallOpen gs ts =
    (product_of (top ts) ≤ 100000) × (product_of (top (below ts)) ≤ 100000) × SmallOuter gs (below (below ts))

small_outer : (gs : List Open) (ps : List ℕ) (ts : List Tree) → Outer gs ps ts → SmallOuter gs ts
small_outer [] ps ts h = tt
small_outer (g ∷ gs) ps ts h =
    (omega (arith, h.0, h.1), omega (arith, h.0, h.1), small_outer gs (products_below ps) (below (below ts)) h.2)

small_open : (r : Reading) (ts : List Tree) → MeasuredOpen r ts → SmallOpen r.groups ts
small_open r ts h =
    (omega (arith, h.0, h.1), omega (arith, h.0, h.1), small_outer r.groups r.products (below (below ts)) h.2)

-- one more term
small_term : (gs : List Open) (ts : List Tree) (a : Tree) → product_of a ≤ 100000 → SmallOpen gs ts
    → SmallOpen gs (sequence (top ts) a ∷ below ts)
small_term gs ts a le h = (omega (arith, le, h.0), h.1, h.2)

-- the groups that are open, closed at once
closing : (gs : List Open) (ts : List Tree) (g : Tree) → (t : Tree) × Closes gs ts (closers gs) g t
    × (SmallOuter gs ts → product_of g ≤ 100000 → product_of t ≤ 100000)
closing [] ts g = (g, (refl, refl), λ h le. le)
closing (Group ∷ gs) ts g =
    let whole : Tree = choice (top (below ts)) (sequence (top ts) g) in
    let next = closing gs (below (below ts)) whole in (
      next.0,
      (closers gs, refl, (g, closers gs, no_suffix, (closers gs, whole, ends, next.1))),
      λ h le. next.2 h.2 (omega (arith, le, h.0, h.1)),
    )
closing (Ahead negated ∷ gs) ts g =
    let whole : Tree = choice (top (below ts)) (sequence (top ts) (lookahead negated g)) in
    let next = closing gs (below (below ts)) whole in
    (next.0, (closers gs, refl, (closers gs, whole, ends, next.1)), λ h le. next.2 h.2 (omega (arith, le, h.0, h.1)))

closed_term : (ts : List Tree) (gs : List Open) → (t : Tree) × InTerm ts gs (closers gs) t
    × (SmallOpen gs ts → product_of t ≤ 100000)
closed_term ts gs =
    let whole : Tree = choice (top (below ts)) (top ts) in
    let next = closing gs (below (below ts)) whole in
    (next.0, (closers gs, whole, ends, next.1), λ h. next.2 h.2 (omega (arith, h.0, h.1)))

closed_atom : (a : Tree) (ts : List Tree) (gs : List Open) → (t : Tree) × AfterAtom a ts gs (closers gs) t
    × (product_of a ≤ 100000 → SmallOpen gs ts → product_of t ≤ 100000)
closed_atom a ts gs =
    let next = closed_term (sequence (top ts) a ∷ below ts) gs in
    (next.0, unsuffixed ts gs next.0 a (closers gs) next.1, λ le h. next.2 (small_term gs ts a le h))

no_digit : (gs : List Open) → BeginsDigit (closers gs) → ⊥
no_digit [] h = h
no_digit (g ∷ gs) h = cc

one_small : 1 ≤ 100000
one_small = omega arith

-- after characters that stand for themselves
flushed_small : (cs : List ℕ) (r : Reading) → product_of (top r.trees) ≤ 100000 → SmallOpen r.groups (below r.trees)
    → (product_of (top (flushed_chars cs r).trees) ≤ 100000)
    × SmallOpen (flushed_chars cs r).groups (below (flushed_chars cs r).trees)
flushed_small [] r le h = (le, h)
flushed_small (c ∷ cs) r le h = flushed_small cs (with_atom (char c) (with_term r)) one_small
    (small_term r.groups (below r.trees) (top r.trees) le h)

flushed_base : (after_atom : Bool) (r : Reading) → MeasuredBase after_atom r
    → (product_of (top (flushed after_atom r).trees) ≤ 100000)
    × SmallOpen (flushed after_atom r).groups (below (flushed after_atom r).trees)
flushed_base true r h =
    flushed_small r.braces (record (with_atom (char 123) (with_term r)) { braces = [] }) one_small
    (small_term r.groups (below r.trees) (top r.trees) (omega (arith, h.0, h.1)) (small_open r (below r.trees) h.2))
flushed_base false r h =
    flushed_small r.braces (record (with_atom (char 123) r) { braces = [] }) one_small (small_open r r.trees h)

no_braces_closed : (bs : List ℕ) (gs : List Open) → AllInner bs → BeginsBraces (123 ∷ (bs ++ closers gs)) → ⊥
no_braces_closed bs [] inner h = breaks_at_end bs inner h
no_braces_closed bs (g ∷ gs) inner h = breaks bs 41 (closers gs) inner refl (λ e. absurd (omega (arith, e))) h

-- the greatest character whose digits go on so
module _ (first : Option ℕ) (value : ℕ) where
  abbrev Ending : ℕ → Type 0
  Ending left = (digits : List ℕ) × (ch : ℕ) × ((rest : List ℕ) → Hex left value (digits ++ rest) rest ch)
      × (is_surrogate ch ≡ false) × CanEnd first ch

  three : (b : Bool) → value == 13 ≡ b → IsPartial first value 3 → Ending 3
  three true e h =
      let is : value ≡ 13 = grind (arith, nat_tests) in (
        55 ∷ 102 ∷ 102 ∷ [],
        0xd7ff,
        (λ rest. (
          55,
          7,
          102 ∷ 102 ∷ rest,
          refl,
          refl,
          (102, 15, 102 ∷ rest, refl, refl, (102, 15, rest, refl, refl, (refl, omega (arith, is)))),
        )),
        refl,
        subst (λ (k : ℕ). CanEnd first (greatest_of_three k)) is h.1,
      )
  three false e h = (
    102 ∷ 102 ∷ 102 ∷ [],
    value * 4096 + 4095,
    (λ rest. (
      102,
      15,
      102 ∷ 102 ∷ rest,
      refl,
      refl,
      (102, 15, 102 ∷ rest, refl, refl, (102, 15, rest, refl, refl, (refl, omega arith))),
    )),
    no_surrogate,
    subst (λ (b : Bool). CanEnd first (cond b 0xd7ff (value * 4096 + 4095))) e h.1,
  )
    where
      no_surrogate : is_surrogate (value * 4096 + 4095) ≡ false
      no_surrogate = let small : value < 16 = h.0 in grind (arith, nat_tests)

  ending : (left : ℕ) → IsPartial first value left → Ending left
  ending zero h = absurd h
  ending (suc zero) h = (102 ∷ [], value * 16 + 15, (λ rest. (102, 15, rest, refl, refl, (refl, refl))), h.1, h.2)
  ending (suc (suc zero)) h = (
    102 ∷ 102 ∷ [],
    value * 256 + 255,
    (λ rest. (102, 15, 102 ∷ rest, refl, refl, (102, 15, rest, refl, refl, (refl, omega arith)))),
    h.1,
    h.2,
  )
  ending (suc (suc (suc zero))) h = three (value == 13) refl h
  ending (suc (suc (suc (suc zero)))) h = (
    102 ∷ 102 ∷ 102 ∷ 102 ∷ [],
    0xffff,
    (λ rest. (
      102,
      15,
      102 ∷ 102 ∷ 102 ∷ rest,
      refl,
      refl,
      (
        102,
        15,
        102 ∷ 102 ∷ rest,
        refl,
        refl,
        (102, 15, 102 ∷ rest, refl, refl, (102, 15, rest, refl, refl, (refl, omega (arith, h.0)))),
      ),
    )),
    refl,
    h.1,
  )
  ending (suc (suc (suc (suc (suc n))))) h = absurd h

abbrev ViableIn : Mode → Reading → Type 0
ViableIn m r =
    (w : List ℕ) × (t : Tree) × CompletesIn m r w t × (MeasuredBase (after_atom_in m) r → product_of t ≤ 100000)

-- after a class's end
module _ (r : Reading) where
  abbrev gs : List Open
  gs = r.groups

  class_closed : (all : List CharRange) → (t : Tree) × AfterClass r t all (closers gs)
      × (MeasuredBase false r → product_of t ≤ 100000)
  class_closed all =
      let c = closed_atom (one_of r.negated all) r.trees gs in (c.0, c.1, λ h. c.2 one_small (small_open r r.trees h))

  viable_hex : (value left : ℕ) → IsPartial None value left → ViableIn (modes.Hex value left) r
  viable_hex value left h =
      let e = ending None value left h in
      let c = closed_atom (char e.1) r.trees gs in (
        e.0 ++ closers gs,
        c.0,
        (e.1, closers gs, e.2 (closers gs), e.3, c.1),
        λ m. c.2 one_small (small_open r r.trees m),
      )

  viable_class_hex : (first : Option ℕ) (value left : ℕ) → IsPartial first value left
      → ViableIn (modes.ClassHex first value left) r
  viable_class_hex None value left h =
      let e = ending None value left h in
      let c = class_closed (r.ranges ++ range e.1 e.1 ∷ []) in (
        e.0 ++ 93 ∷ closers gs,
        c.0,
        (
          r.ranges ++ range e.1 e.1 ∷ [],
          closers gs,
          e.1,
          93 ∷ closers gs,
          e.2 (93 ∷ closers gs),
          e.3,
          after_one no_item,
          c.1,
        ),
        c.2,
      )
  viable_class_hex (Some first) value left h =
      let e = ending (Some first) value left h in
      let c = class_closed (r.ranges ++ range first e.1 ∷ []) in (
        e.0 ++ 93 ∷ closers gs,
        c.0,
        (
          r.ranges ++ range first e.1 ∷ [],
          closers gs,
          e.1,
          93 ∷ closers gs,
          e.2 (93 ∷ closers gs),
          e.3,
          (e.4, no_item),
          c.1,
        ),
        c.2,
      )

  viable_class_escape : (first : Option ℕ) → CanEnd first 0xffff → ViableIn (modes.ClassEscape first) r
  viable_class_escape None h = let c = class_closed (r.ranges ++ range 8 8 ∷ []) in (
    98 ∷ 93 ∷ closers gs,
    c.0,
    (
      r.ranges ++ range 8 8 ∷ [],
      closers gs,
      escape_char backspace (after_one no_item),
      c.1,
    ),
    c.2,
  )
  viable_class_escape (Some first) h =
      let c = class_closed (r.ranges ++ range first 0xffff ∷ []) in
      let rest : List ℕ = 93 ∷ closers gs in
      let digits : Hex 4 0 (102 ∷ 102 ∷ 102 ∷ 102 ∷ rest) rest 0xffff = (
        102,
        15,
        102 ∷ 102 ∷ 102 ∷ rest,
        refl,
        refl,
        (
          102,
          15,
          102 ∷ 102 ∷ rest,
          refl,
          refl,
          (102, 15, 102 ∷ rest, refl, refl, (102, 15, rest, refl, refl, (refl, refl))),
        ),
      ) in (
        117 ∷ 102 ∷ 102 ∷ 102 ∷ 102 ∷ rest,
        c.0,
        (
          r.ranges ++ range first 0xffff ∷ [],
          closers gs,
          0xffff,
          rest,
          class_escape (four_digits digits refl),
          h,
          no_item,
          c.1,
        ),
        c.2,
      )

  viable_braces : (after_atom : Bool) → AllInner r.braces → ViableIn (Braces after_atom) r
  viable_braces after_atom inner =
      let f : Reading = flushed after_atom r in
      let c = closed_atom (top f.trees) (below f.trees) f.groups in (
        closers f.groups,
        c.0,
        (λ i. flushed_next after_atom r (closers f.groups) c.0 i
            (no_braces_closed r.braces f.groups i) c.1),
        λ m. let s = flushed_base after_atom r m in c.2 s.0 s.1,
      )

  viable_in : (m : Mode) → IsSaneIn m r → ViableIn m r
  viable_in Term h = let c = closed_term r.trees gs in (closers gs, c.0, c.1, λ m. c.2 (small_open r r.trees m))
  viable_in Atom h = let c = closed_atom (top r.trees) (below r.trees) gs in
      (closers gs, c.0, c.1, λ m. c.2 (omega (arith, m.0, m.1)) (small_open r (below r.trees) m.2))
  viable_in Quantified h =
      let c = closed_term r.trees gs in (closers gs, c.0, inl c.1, λ m. c.2 (small_open r r.trees m))
  viable_in Zero h = let c = closed_atom (top r.trees) (below r.trees) gs in
      (closers gs, c.0, (no_digit gs, c.1), λ m. c.2 (omega (arith, m.0, m.1)) (small_open r (below r.trees) m.2))
  viable_in (Braces after_atom) h = viable_braces after_atom h
  viable_in Escape h =
      let c = closed_term (sequence (top r.trees) (word_boundary false) ∷ below r.trees) gs in (
        98 ∷ closers gs,
        c.0,
        term_next r.trees gs c.0 (word_boundary false) (92 ∷ 98 ∷ closers gs) (closers gs)
            at_boundary c.1,
        λ m. c.2 (small_term gs r.trees (word_boundary false) one_small (small_open r r.trees m)),
      )
  viable_in (modes.Hex value left) h = viable_hex value left h
  viable_in Paren h =
      let empty : Tree = choice never nothing in
      let c = closed_atom empty r.trees gs in (
        41 ∷ closers gs,
        c.0,
        atom_next r.trees gs c.0 empty (40 ∷ 41 ∷ closers gs) (closers gs) (group ends) c.1,
        λ m. c.2 one_small (small_open r r.trees m),
      )
  viable_in ParenQuestion h =
      let empty : Tree = choice never nothing in
      let c = closed_atom empty r.trees gs in (
        58 ∷ 41 ∷ closers gs,
        c.0,
        atom_next r.trees gs c.0 empty (40 ∷ 63 ∷ 58 ∷ 41 ∷ closers gs) (closers gs)
            (bare_group ends) c.1,
        λ m. c.2 one_small (small_open r r.trees m),
      )
  viable_in ClassOpen h = let c = class_closed r.ranges in
      (93 ∷ closers gs, c.0, inl ((λ e. absurd (omega (arith, e))), (r.ranges, closers gs, no_item, c.1)), c.2)
  viable_in ClassFirst h =
      let c = class_closed r.ranges in (93 ∷ closers gs, c.0, (r.ranges, closers gs, no_item, c.1), c.2)
  viable_in ClassNext h =
      let c = class_closed r.ranges in (93 ∷ closers gs, c.0, (r.ranges, closers gs, no_item, c.1), c.2)
  viable_in ClassNextDash h = let c = class_closed (r.ranges ++ range 45 45 ∷ []) in
      (93 ∷ closers gs, c.0, (r.ranges ++ range 45 45 ∷ [], closers gs, last_dash, c.1), c.2)
  viable_in ClassNextDashes h = let c = class_closed (r.ranges ++ range 45 45 ∷ []) in (
    45 ∷ 93 ∷ closers gs,
    c.0,
    (
      r.ranges ++ range 45 45 ∷ [],
      closers gs,
      45,
      93 ∷ closers gs,
      end_dash,
      omega arith,
      no_item,
      c.1,
    ),
    c.2,
  )
  viable_in (modes.ClassChar first) h = let c = class_closed (r.ranges ++ range first first ∷ []) in
      (93 ∷ closers gs, c.0, (r.ranges ++ range first first ∷ [], closers gs, after_one no_item, c.1), c.2)
  viable_in (modes.ClassDash first) h =
      let all : List CharRange = r.ranges ++ range first first ∷ [] ++ range 45 45 ∷ [] in
      let c = class_closed all in
      (93 ∷ closers gs, c.0, (all, closers gs, after_one last_dash, c.1), c.2)
  viable_in (modes.ClassZero true) h =
      let c = class_closed r.ranges in (93 ∷ closers gs, c.0, ((λ e. cc), (r.ranges, closers gs, no_item, c.1)), c.2)
  viable_in (modes.ClassZero false) h = let c = class_closed (r.ranges ++ range 0 0 ∷ []) in
      (93 ∷ closers gs, c.0, ((λ e. cc), (r.ranges ++ range 0 0 ∷ [], closers gs, after_one no_item, c.1)), c.2)
  viable_in (modes.ClassEscape first) h = viable_class_escape first h
  viable_in (modes.ClassHex first value left) h = viable_class_hex first value left h

pub viable : (r : Reading) → IsSane r → (w : List ℕ) × (t : Tree) × Completes r w t
    × (IsMeasured r → product_of t ≤ 100000)
viable r h = viable_in r r.mode h
