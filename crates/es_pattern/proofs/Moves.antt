-- What each character makes of the kind of place at which the machine stands, whatever trees it builds.
use Rattle.std.proofs.Common.{
  ◌≡◌,
  ℕ,
  zero,
  suc,
  ◌+◌,
  ◌-◌,
  ◌*◌,
  Bool,
  true,
  false,
  cond,
  List,
  [],
  ◌∷◌,
  ◌++◌,
  length,
  Option,
  Some,
  None,
  refl,
  sym,
  ap,
  subst,
  ◌∙◌,
  arith,
}
use Rattle.std.specs.Prelude.{◌==◌, ◌||◌, ◌⊎◌, max, nat_le}
use Rattle.std.proofs.lemmas.Option.{same_Some}
use Rattle.std.proofs.lemmas.Bool.{eqb-true, eqb-false}
use Rattle.es_pattern.specs.Tree.{CharRange, one_of, nothing, text_start, text_end, word_boundary, choice, lookahead}
use Rattle.es_pattern.specs.Pieces.{top, below}
use Rattle.es_pattern.specs.Escapes.{is_ascii_digit, set_of, escaped, hex_value}
use Rattle.es_pattern.specs.Grammar.{any, char}
use Rattle.es_pattern.specs.Limits.{count_of}
use Rattle.es_pattern.specs.Places.{is_structural}
use Rattle.es_pattern.specs.Refusals.{may_escape, may_open, pending}
use Rattle.es_pattern.specs.declared.mode.Open.{Open}
use Rattle.es_pattern.specs.declared.mode.Open.TheVariants.{Group, Ahead}
use Rattle.es_pattern.specs.declared.mode.Mode.{Mode}
use Rattle.es_pattern.specs.declared.mode.Mode.TheVariants.{
  Term,
  Atom,
  Quantified,
  Zero,
  Braces,
  Escape,
  Paren,
  ParenQuestion,
  ClassOpen,
  ClassFirst,
  ClassNext,
  ClassNextDash,
  ClassNextDashes,
}
use Rattle.es_pattern.specs.declared.mode.Mode.TheVariants as modes
use Rattle.es_pattern.specs.Reading.{
  Reading,
  charged,
  with_term,
  top_product,
  products_below,
  closed_by,
  quantified,
  marked,
  term_begun,
  plain,
  with_set,
  with_char,
  asserted,
  joined,
  settled,
  with_atom,
  opened,
  at,
  leaf,
  chosen,
  greatest_from,
  hex_to,
  hex_by,
  flushed,
  flushed_chars,
  bounds_of,
  in_braces_end,
  is_inner,
  in_braces,
  ranged,
  class_end,
  item,
  next_item,
  after_char,
  class_char,
  range_end,
  after_dash,
  next_dash,
  next_dashes,
  class_char_if,
  can_end,
  class_zero,
  with_ranges,
  class_set,
  class_hex_to,
  class_hex_by,
  step_in,
  step,
}
use Rattle.es_pattern.proofs.Sound.{if_else, hex_guard, inner_is}
use Rattle.es_pattern.proofs.NumberTests.{no_some}

-- where the machine stands: outside classes, in braces of these characters, just after `(` and after `(?`, behind a
-- backslash, in an escape's hexadecimal digits, just after `[`, and in a class; the Bool tells an escape in a class
pub data Kind : Type 0 where
  outside : Kind
  in_bounds : List ℕ → Kind
  in_paren : Kind
  in_question : Kind
  behind : Bool → Kind
  in_hex : Bool → ℕ → ℕ → Kind
  class_front : Kind
  inside : Kind

-- the kind of place of a mode, with the characters of its braces
abbrev pub kind_in : Mode → List ℕ → Kind
kind_in Term braces = outside
kind_in Atom braces = outside
kind_in Quantified braces = outside
kind_in Zero braces = outside
kind_in (Braces after_atom) braces = in_bounds braces
kind_in Escape braces = behind false
kind_in (modes.Hex value left) braces = in_hex false value left
kind_in Paren braces = in_paren
kind_in ParenQuestion braces = in_question
kind_in ClassOpen braces = class_front
kind_in ClassFirst braces = inside
kind_in ClassNext braces = inside
kind_in ClassNextDash braces = inside
kind_in ClassNextDashes braces = inside
kind_in (modes.ClassChar first) braces = inside
kind_in (modes.ClassDash first) braces = inside
kind_in (modes.ClassZero is_last) braces = inside
kind_in (modes.ClassEscape first) braces = behind true
kind_in (modes.ClassHex first value left) braces = in_hex true value left

abbrev pub kind : Reading → Kind
kind r = kind_in r.mode r.braces

-- where an escape ends
abbrev pub behind_escape : Bool → Kind
behind_escape false = outside
behind_escape true = inside

-- from within d groups to kind k within e groups, by a character outside classes and escapes
pub data OutsideMoves (d c : ℕ) (k : Kind) (e : ℕ) : Type 0 where
  by_symbol : is_structural c ≡ false → (c ≡ 123 → ⊥) → k ≡ outside → e ≡ d → OutsideMoves d c k e
  by_brace : c ≡ 123 → k ≡ in_bounds [] → e ≡ d → OutsideMoves d c k e
  by_paren : c ≡ 40 → k ≡ in_paren → e ≡ d → OutsideMoves d c k e
  by_close : c ≡ 41 → k ≡ outside → d ≡ suc e → OutsideMoves d c k e
  by_bracket : c ≡ 91 → k ≡ class_front → e ≡ d → OutsideMoves d c k e
  by_backslash : c ≡ 92 → k ≡ behind false → e ≡ d → OutsideMoves d c k e

-- in braces, after `(`, behind a backslash, in hexadecimal digits, in a class and just after `[`
pub data BoundsMoves (bs : List ℕ) (d c : ℕ) (k : Kind) (e : ℕ) : Type 0 where
  by_inner : (is_ascii_digit c ≡ true) ⊎ (c ≡ 44) → k ≡ in_bounds (bs ++ c ∷ []) → e ≡ d → BoundsMoves bs d c k e
  by_other : OutsideMoves d c k e → BoundsMoves bs d c k e

pub data ParenMoves (d c : ℕ) (k : Kind) (e : ℕ) : Type 0 where
  by_question : c ≡ 63 → k ≡ in_question → e ≡ d → ParenMoves d c k e
  by_content : (c ≡ 63 → ⊥) → OutsideMoves (suc d) c k e → ParenMoves d c k e

pub data EscapeMoves (within_class : Bool) (d c : ℕ) (k : Kind) (e : ℕ) : Type 0 where
  by_letter : (c == 120 || c == 117) ≡ false → k ≡ behind_escape within_class → e ≡ d → EscapeMoves within_class d c k e
  by_x : c ≡ 120 → k ≡ in_hex within_class 0 2 → e ≡ d → EscapeMoves within_class d c k e
  by_u : c ≡ 117 → k ≡ in_hex within_class 0 4 → e ≡ d → EscapeMoves within_class d c k e

pub data HexMoves (within_class : Bool) (value left d c : ℕ) (k : Kind) (e : ℕ) : Type 0 where
  by_last : (v : ℕ) → hex_value c ≡ Some v → left ≡ 1 → k ≡ behind_escape within_class → e ≡ d
      → HexMoves within_class value left d c k e
  by_more : (v l : ℕ) → hex_value c ≡ Some v → left ≡ suc (suc l) → k ≡ in_hex within_class (value * 16 + v) (suc l)
      → e ≡ d → HexMoves within_class value left d c k e

pub data InsideMoves (d c : ℕ) (k : Kind) (e : ℕ) : Type 0 where
  by_end : c ≡ 93 → k ≡ outside → e ≡ d → InsideMoves d c k e
  by_class_backslash : c ≡ 92 → k ≡ behind true → e ≡ d → InsideMoves d c k e
  by_member : (c == 93 || c == 92) ≡ false → k ≡ inside → e ≡ d → InsideMoves d c k e

pub data FrontMoves (d c : ℕ) (k : Kind) (e : ℕ) : Type 0 where
  by_caret : c ≡ 94 → k ≡ inside → e ≡ d → FrontMoves d c k e
  by_first : (c ≡ 94 → ⊥) → InsideMoves d c k e → FrontMoves d c k e

-- from a kind of place within d groups, by a character, to a kind of place within e groups
abbrev pub Moves : Kind → ℕ → ℕ → Kind → ℕ → Type 0
Moves outside d c k e = OutsideMoves d c k e
Moves (in_bounds bs) d c k e = BoundsMoves bs d c k e
Moves in_paren d c k e = ParenMoves d c k e
Moves in_question d c k e = ((c == 58 || c == 61 || c == 33) ≡ true) × (k ≡ outside) × (e ≡ suc d)
Moves (behind within_class) d c k e = EscapeMoves within_class d c k e
Moves (in_hex within_class value left) d c k e = HexMoves within_class value left d c k e
Moves class_front d c k e = FrontMoves d c k e
Moves inside d c k e = InsideMoves d c k e

-- what holds of the new reading, of its kind and the number of its groups
moved : (P : Kind → ℕ → Type 0) (x s : Reading) → Some x ≡ Some s → P (kind x) (length x.groups)
    → P (kind s) (length s.groups)
moved P x s e h = subst (λ (y : Reading). P (kind y) (length y.groups)) (same_Some x s e) h

-- a given character that is no structural one
symbol_at : (c n : ℕ) → c == n ≡ true → is_structural n ≡ false → is_structural c ≡ false
symbol_at c n e h = subst (λ (x : ℕ). is_structural x ≡ false) (sym (eqb-true c n e)) h

not_structural : (c : ℕ) → c == 40 ≡ false → c == 41 ≡ false → c == 91 ≡ false → c == 92 ≡ false
    → is_structural c ≡ false
not_structural c a b d e = rw (a, b, d, e) refl

apart : (c n m : ℕ) → c == n ≡ true → (n ≡ m → ⊥) → c ≡ m → ⊥
apart c n m e different h = different (sym (eqb-true c n e) ∙ h)

-- the end of a group
closed_moves : (gs : List Open) (r s : Reading) (c : ℕ) → c ≡ 41 → closed_by gs r ≡ Some s
    → OutsideMoves (length gs) c (kind s) (length s.groups)
closed_moves [] r s c at_c e = no_some s e
closed_moves (Group ∷ gs) r s c at_c e =
    moved (OutsideMoves (length (Group ∷ gs)) c) (at Atom (chosen
    (record r {
      groups = gs;
      products = products_below r.products;
      product = top_product r.products;
      atom_product =
          r.product;
    }))) s e (by_close at_c refl (omega arith))
closed_moves (Ahead negated ∷ gs) r s c at_c e =
    let x : Reading = at Term (joined (record r {
      groups = gs;
      products = products_below r.products;
      product =
          max r.product (top_product r.products);
      trees =
          lookahead negated (choice (top (below r.trees)) (top r.trees)) ∷ below (below r.trees);
    })) in
    moved (OutsideMoves (length (Ahead negated ∷ gs)) c) x s e (by_close at_c refl (omega arith))

-- a character where a term may begin, that is no quantifier and no `{`
term_moves : (c : ℕ) (r s : Reading) → c == 123 ≡ false → term_begun c r ≡ Some s
    → OutsideMoves (length r.groups) c (kind s) (length s.groups)
term_moves c r s n123 e =
    let P : Type 0 = OutsideMoves (length r.groups) c (kind s) (length s.groups) in
    let M : Kind → ℕ → Type 0 = OutsideMoves (length r.groups) c in
    let not_brace = eqb-false c 123 n123 in
    if_else (c == 94) _ _ s P e (λ y x. moved M (asserted text_start r) s x
    (by_symbol (symbol_at c 94 y refl) not_brace refl refl)) (λ n94 e2.
    if_else (c == 36) _ _ s P e2 (λ y x. moved M (asserted text_end r) s x
    (by_symbol (symbol_at c 36 y refl) not_brace refl refl)) (λ n36 e3.
    if_else (c == 124) _ _ s P e3 (λ y x. moved M (at Term (leaf nothing (chosen r))) s x
    (by_symbol (symbol_at c 124 y refl) not_brace refl refl)) (λ n124 e4.
    if_else (c == 41) _ _ s P e4 (λ y x. closed_moves r.groups r s c (eqb-true c 41 y) x) (λ n41 e5.
    if_else (c == 40) _ _ s P e5 (λ y x. moved M (at Paren r) s x (by_paren (eqb-true c 40 y) refl refl)) (λ n40 e6.
    if_else (c == 91) _ _ s P e6 (λ y x. moved M (at ClassOpen (record r { negated = false; ranges = [] })) s x
    (by_bracket (eqb-true c 91 y) refl refl)) (λ n91 e7.
    if_else (c == 92) _ _ s P e7 (λ y x. moved M (at Escape r) s x (by_backslash (eqb-true c 92 y) refl refl))
    (λ n92 e8.
    if_else (c == 46) _ _ s P e8 (λ y x. moved M (with_atom any r) s x
    (by_symbol (symbol_at c 46 y refl) not_brace refl refl)) (λ n46 x.
    moved M (with_atom (char c) r) s x (by_symbol (not_structural c n40 n41 n91 n92) not_brace refl refl)))))))))

-- a quantifier
marked_moves : (after_atom : Bool) (n product least : ℕ) (most : Option ℕ) (r s : Reading) (c : ℕ) → c == n ≡ true
    → is_structural n ≡ false → n == 123 ≡ false → marked after_atom product least most r ≡ Some s
    → OutsideMoves (length r.groups) c (kind s) (length s.groups)
marked_moves true n product least most r s c at_c h n123 e =
    moved (OutsideMoves (length r.groups) c) (quantified least most (charged product r)) s e
    (by_symbol (symbol_at c n at_c h) (apart c n 123 at_c (eqb-false n 123 n123)) refl refl)
marked_moves false n product least most r s c at_c h n123 e = no_some s e

-- where a term may begin, or a quantifier after an atom
plain_moves : (after_atom may_be_lazy : Bool) (c : ℕ) (r s : Reading) → plain after_atom may_be_lazy c r ≡ Some s
    → OutsideMoves (length r.groups) c (kind s) (length s.groups)
plain_moves after_atom may_be_lazy c r s e =
    let P : Type 0 = OutsideMoves (length r.groups) c (kind s) (length s.groups) in
    if_else (c == 42) _ _ s P e (λ y x. marked_moves after_atom 42 r.atom_product 0 None r s c y refl refl x) (λ n42 e2.
    if_else (c == 43) _ _ s P e2 (λ y x. marked_moves after_atom 43 r.atom_product 1 None r s c y refl refl x)
    (λ n43 e3.
    if_else (c == 63) _ _ s P e3 (λ y x. question_moves may_be_lazy y x) (λ n63 e4.
    if_else (c == 123) _ _ s P e4 (λ y x. moved (OutsideMoves (length r.groups) c)
    (at (Braces after_atom) (record r { braces = [] })) s x (by_brace (eqb-true c 123 y) refl refl))
    (λ n123 x. settled_moves after_atom n123 x))))
  where
    question_moves : (may : Bool) → c == 63 ≡ true
        → cond may (Some (at Term r)) (marked after_atom r.atom_product 0 (Some 1) r) ≡ Some s
        → OutsideMoves (length r.groups) c (kind s) (length s.groups)
    question_moves true y x = moved (OutsideMoves (length r.groups) c) (at Term r) s x
        (by_symbol (symbol_at c 63 y refl) (λ h. apart c 63 123 y (λ g. absurd (omega (arith, g))) h) refl refl)
    question_moves false y x = marked_moves after_atom 63 r.atom_product 0 (Some 1) r s c y refl refl x

    settled_moves : (after : Bool) → c == 123 ≡ false → term_begun c (settled after r) ≡ Some s
        → OutsideMoves (length r.groups) c (kind s) (length s.groups)
    settled_moves true n123 x = term_moves c (with_term r) s n123 x
    settled_moves false n123 x = term_moves c r s n123 x

-- braces that are no quantifier open no group
flushed_chars_groups : (cs : List ℕ) (r : Reading) → (flushed_chars cs r).groups ≡ r.groups
flushed_chars_groups [] r = refl
flushed_chars_groups (c ∷ cs) r = flushed_chars_groups cs (with_atom (char c) (with_term r))

flushed_groups : (after_atom : Bool) (r : Reading) → (flushed after_atom r).groups ≡ r.groups
flushed_groups true r = flushed_chars_groups r.braces (record (with_atom (char 123) (with_term r)) { braces = [] })
flushed_groups false r = flushed_chars_groups r.braces (record (with_atom (char 123) r) { braces = [] })

-- in braces
braces_moves : (after_atom : Bool) (c : ℕ) (r s : Reading) → r.mode ≡ Braces after_atom
    → in_braces after_atom c r ≡ Some s → BoundsMoves r.braces (length r.groups) c (kind s) (length s.groups)
braces_moves after_atom c r s m e =
    let P : Type 0 = BoundsMoves r.braces (length r.groups) c (kind s) (length s.groups) in
    if_else (is_inner r.braces c) _ _ s P e (λ y x. goes_on y x) (λ out e2.
    if_else (c == 125) _ _ s P e2 (λ y x. at_end (bounds_of r.braces) y x) (λ n125 x. by_other (broken x)))
  where
    goes_on : is_inner r.braces c ≡ true → Some (record r { braces = r.braces ++ c ∷ [] }) ≡ Some s
        → BoundsMoves r.braces (length r.groups) c (kind s) (length s.groups)
    goes_on y x = moved (BoundsMoves r.braces (length r.groups) c) (record r { braces = r.braces ++ c ∷ [] }) s x
        (by_inner (inner_is r.braces c y) (ap (λ (k : Mode). kind_in k (r.braces ++ c ∷ [])) m) refl)

    broken : plain true false c (flushed after_atom r) ≡ Some s
        → OutsideMoves (length r.groups) c (kind s) (length s.groups)
    broken x = subst (λ (gs : List Open). OutsideMoves (length gs) c (kind s) (length s.groups))
        (flushed_groups after_atom r) (plain_moves true false c (flushed after_atom r) s x)

    at_end : (o : Option (ℕ × Option ℕ)) → c == 125 ≡ true → in_braces_end o after_atom c r ≡ Some s
        → BoundsMoves r.braces (length r.groups) c (kind s) (length s.groups)
    at_end None y x = by_other (broken x)
    at_end (Some bounds) y x = by_other (marked_moves after_atom 125 (r.atom_product * count_of bounds.0 bounds.1)
        bounds.0 bounds.1 r s c y refl refl x)

-- a given letter that is no `x` and no `u`
letter_at : (c n : ℕ) → c == n ≡ true → (n == 120 || n == 117) ≡ false → (c == 120 || c == 117) ≡ false
letter_at c n e h = subst (λ (x : ℕ). (x == 120 || x == 117) ≡ false) (sym (eqb-true c n e)) h

-- `x` and `u` are no sets
set_letter : (c : ℕ) (ranges : List CharRange) → set_of c ≡ Some ranges → (c == 120 || c == 117) ≡ false
set_letter c ranges h = by_x (c == 120) refl (c == 117) refl
  where
    no_set : (n : ℕ) → c == n ≡ true → set_of n ≡ None → ⊥
    no_set n y g = let at_n : set_of c ≡ None = ap set_of (eqb-true c n y) ∙ g in cc

    by_x : (b : Bool) → c == 120 ≡ b → (d : Bool) → c == 117 ≡ d → b || d ≡ false
    by_x true x d u = absurd (no_set 120 x refl)
    by_x false x true u = absurd (no_set 117 u refl)
    by_x false x false u = refl

-- behind a backslash
escape_moves : (c : ℕ) (r s : Reading) → with_set (set_of c) c r ≡ Some s
    → EscapeMoves false (length r.groups) c (kind s) (length s.groups)
escape_moves c r s e = by_set (set_of c) refl e
  where
    P : Type 0
    P = EscapeMoves false (length r.groups) c (kind s) (length s.groups)

    M : Kind → ℕ → Type 0
    M = EscapeMoves false (length r.groups) c

    by_char : (o : Option ℕ) → c == 120 ≡ false → c == 117 ≡ false → with_char o r ≡ Some s → P
    by_char None n120 n117 x = no_some s x
    by_char (Some v) n120 n117 x = moved M (with_atom (char v) r) s x (by_letter (rw (n120, n117) refl) refl refl)

    by_set : (o : Option (List CharRange)) → set_of c ≡ o → with_set o c r ≡ Some s → P
    by_set (Some ranges) here x =
        moved M (with_atom (one_of false ranges) r) s x (by_letter (set_letter c ranges here) refl refl)
    by_set None here x =
        if_else (c == 98) _ _ s P x (λ y z. moved M (asserted (word_boundary false) r) s z
        (by_letter (letter_at c 98 y refl) refl refl)) (λ n98 x2.
        if_else (c == 66) _ _ s P x2 (λ y z. moved M (asserted (word_boundary true) r) s z
        (by_letter (letter_at c 66 y refl) refl refl)) (λ n66 x3.
        if_else (c == 120) _ _ s P x3 (λ y z. moved M (at (modes.Hex 0 2) r) s z (by_x (eqb-true c 120 y) refl refl))
        (λ n120 x4.
        if_else (c == 117) _ _ s P x4 (λ y z. moved M (at (modes.Hex 0 4) r) s z (by_u (eqb-true c 117 y) refl refl))
        (λ n117 x5.
        if_else (c == 48) _ _ s P x5 (λ y z. moved M (at Zero (with_atom (char 0) r)) s z
        (by_letter (letter_at c 48 y refl) refl refl)) (λ n48 x6.
        by_char (escaped c) n120 n117 x6)))))

-- a digit is left
not_over : (l : ℕ) → suc l == 0 ≡ true → ⊥
not_over l y = let e : suc l ≡ 0 = eqb-true (suc l) 0 y in omega (arith, e)

-- in an escape's hexadecimal digits
hex_moves : (value left c : ℕ) (r s : Reading) → hex_by (hex_value c) value left r ≡ Some s
    → HexMoves false value left (length r.groups) c (kind s) (length s.groups)
hex_moves value left c r s e = by_value (hex_value c) refl e
  where
    P : Type 0
    P = HexMoves false value left (length r.groups) c (kind s) (length s.groups)

    M : Kind → ℕ → Type 0
    M = HexMoves false value left (length r.groups) c

    by_left : (d l : ℕ) → hex_value c ≡ Some d → left ≡ suc l → (o : Option ℕ) → hex_to o (value * 16 + d) l r ≡ Some s
        → P
    by_left d l here is None x = no_some s x
    by_left d zero here is (Some top_char) x = moved M (with_atom (char top_char) r) s x (by_last d here is refl refl)
    by_left d (suc l) here is (Some top_char) x =
        if_else (suc l == 0) _ _ s P x (λ y z. absurd (not_over l y))
        (λ n z. moved M (at (modes.Hex (value * 16 + d) (suc l)) r) s z (by_more d l here is refl refl))

    by_value : (o : Option ℕ) → hex_value c ≡ o → hex_by o value left r ≡ Some s → P
    by_value None here x = no_some s x
    by_value (Some d) here x = hex_guard value left None (hex_to (greatest_from (value * 16 + d) (left - 1))
        (value * 16 + d) (left - 1) r) s P x
        (λ l is y. let same : left - 1 ≡ l = omega (arith, is) in by_left d l here is (greatest_from (value * 16 + d) l)
        (subst (λ (k : ℕ). hex_to (greatest_from (value * 16 + d) k) (value * 16 + d) k r ≡ Some s) same y))

-- in classes
item_moves : (c : ℕ) (r s : Reading) → item c r ≡ Some s → InsideMoves (length r.groups) c (kind s) (length s.groups)
item_moves c r s e =
    let P : Type 0 = InsideMoves (length r.groups) c (kind s) (length s.groups) in
    let M : Kind → ℕ → Type 0 = InsideMoves (length r.groups) c in
    if_else (c == 93) _ _ s P e (λ y x. moved M (class_end r) s x (by_end (eqb-true c 93 y) refl refl)) (λ n93 e2.
    if_else (c == 92) _ _ s P e2 (λ y x. moved M (at (modes.ClassEscape None) r) s x
    (by_class_backslash (eqb-true c 92 y) refl refl)) (λ n92 x.
    moved M (at (modes.ClassChar c) r) s x (by_member (rw (n93, n92) refl) refl refl)))

member_at : (c n : ℕ) → c == n ≡ true → (n == 93 || n == 92) ≡ false → (c == 93 || c == 92) ≡ false
member_at c n e h = subst (λ (x : ℕ). (x == 93 || x == 92) ≡ false) (sym (eqb-true c n e)) h

next_item_moves : (c : ℕ) (r s : Reading) → next_item c r ≡ Some s
    → InsideMoves (length r.groups) c (kind s) (length s.groups)
next_item_moves c r s e =
    let P : Type 0 = InsideMoves (length r.groups) c (kind s) (length s.groups) in
    if_else (c == 45) _ _ s P e (λ y x. moved (InsideMoves (length r.groups) c) (at ClassNextDash r) s x
    (by_member (member_at c 45 y refl) refl refl)) (λ n45 x. item_moves c r s x)

after_char_moves : (first c : ℕ) (r s : Reading) → after_char first c r ≡ Some s
    → InsideMoves (length r.groups) c (kind s) (length s.groups)
after_char_moves first c r s e =
    let P : Type 0 = InsideMoves (length r.groups) c (kind s) (length s.groups) in
    if_else (c == 45) _ _ s P e (λ y x. moved (InsideMoves (length r.groups) c) (at (modes.ClassDash first) r) s x
    (by_member (member_at c 45 y refl) refl refl)) (λ n45 x. item_moves c (ranged first first r) s x)

-- a character that was read in a class, or the end of a range
class_char_inside : (P : Kind → ℕ → Type 0) (first : Option ℕ) (c : ℕ) (r s : Reading) → class_char first c r ≡ Some s
    → P inside (length r.groups) → P (kind s) (length s.groups)
class_char_inside P None c r s e h = moved P (at (modes.ClassChar c) r) s e h
class_char_inside P (Some first) c r s e h = if_else (nat_le first c) _ _ s (P (kind s) (length s.groups)) e
    (λ y x. moved P (at ClassNext (ranged first c r)) s x h) (λ n x. no_some s x)

range_end_moves : (first c : ℕ) (r s : Reading) → c == 93 ≡ false → range_end first c r ≡ Some s
    → InsideMoves (length r.groups) c (kind s) (length s.groups)
range_end_moves first c r s n93 e =
    let P : Type 0 = InsideMoves (length r.groups) c (kind s) (length s.groups) in
    let M : Kind → ℕ → Type 0 = InsideMoves (length r.groups) c in
    if_else (c == 92) _ _ s P e (λ y x. if_else (nat_le first 0xffff) _ _ s P x
    (λ le z. moved M (at (modes.ClassEscape (Some first)) r) s z (by_class_backslash (eqb-true c 92 y) refl refl))
    (λ n z. no_some s z)) (λ n92 e2.
    if_else (c == 45) _ _ s P e2 (λ y x. if_else (nat_le first 45) _ _ s P x
    (λ le z. moved M (at ClassNext (ranged first 45 r)) s z (by_member (member_at c 45 y refl) refl refl))
    (λ n z. no_some s z)) (λ n45 x.
    class_char_inside M (Some first) c r s x (by_member (rw (n93, n92) refl) refl refl)))

after_dash_moves : (first c : ℕ) (r s : Reading) → after_dash first c r ≡ Some s
    → InsideMoves (length r.groups) c (kind s) (length s.groups)
after_dash_moves first c r s e =
    if_else (c == 93) _ _ s (InsideMoves (length r.groups) c (kind s) (length s.groups)) e
    (λ y x. moved (InsideMoves (length r.groups) c) (class_end (ranged 45 45 (ranged first first r))) s x
    (by_end (eqb-true c 93 y) refl refl)) (λ n x. range_end_moves first c r s n x)

next_dash_moves : (c : ℕ) (r s : Reading) → next_dash c r ≡ Some s
    → InsideMoves (length r.groups) c (kind s) (length s.groups)
next_dash_moves c r s e =
    let P : Type 0 = InsideMoves (length r.groups) c (kind s) (length s.groups) in
    let M : Kind → ℕ → Type 0 = InsideMoves (length r.groups) c in
    if_else (c == 93) _ _ s P e (λ y x. moved M (class_end (ranged 45 45 r)) s x (by_end (eqb-true c 93 y) refl refl))
    (λ n93 e2.
    if_else (c == 45) _ _ s P e2 (λ y x. moved M (at ClassNextDashes r) s x
    (by_member (member_at c 45 y refl) refl refl)) (λ n45 x. no_some s x))

next_dashes_moves : (c : ℕ) (r s : Reading) → next_dashes c r ≡ Some s
    → InsideMoves (length r.groups) c (kind s) (length s.groups)
next_dashes_moves c r s e =
    if_else (c == 93) _ _ s (InsideMoves (length r.groups) c (kind s) (length s.groups)) e (λ y x. no_some s x)
    (λ n x. range_end_moves 45 c r s n x)

-- behind a backslash in a class
class_escape_moves : (first : Option ℕ) (c : ℕ) (r s : Reading) → class_set (set_of c) first c r ≡ Some s
    → EscapeMoves true (length r.groups) c (kind s) (length s.groups)
class_escape_moves first c r s e = by_set (set_of c) first refl e
  where
    P : Type 0
    P = EscapeMoves true (length r.groups) c (kind s) (length s.groups)

    M : Kind → ℕ → Type 0
    M = EscapeMoves true (length r.groups) c

    by_char : (f o : Option ℕ) → c == 120 ≡ false → c == 117 ≡ false → class_char_if f o r ≡ Some s → P
    by_char f None n120 n117 x = no_some s x
    by_char f (Some v) n120 n117 x = class_char_inside M f v r s x (by_letter (rw (n120, n117) refl) refl refl)

    by_zero : (f : Option ℕ) → (c == 120 || c == 117) ≡ false → class_zero f r ≡ Some s → P
    by_zero None h x = moved M (at (modes.ClassZero false) r) s x (by_letter h refl refl)
    by_zero (Some k) h x = if_else (k == 0) _ _ s P x (λ y z. moved M (at (modes.ClassZero true) (ranged 0 0 r)) s z
        (by_letter h refl refl)) (λ n z. no_some s z)

    rest_moves : (f : Option ℕ) → class_set None f c r ≡ Some s → P
    rest_moves f x =
        if_else (c == 98) _ _ s P x (λ y z. class_char_inside M f 8 r s z (by_letter (letter_at c 98 y refl) refl refl))
        (λ n98 x2.
        if_else (c == 120) _ _ s P x2 (λ y z. if_else (can_end f 0xff) _ _ s P z
        (λ may g. moved M (at (modes.ClassHex f 0 2) r) s g (by_x (eqb-true c 120 y) refl refl))
        (λ n g. no_some s g)) (λ n120 x3.
        if_else (c == 117) _ _ s P x3 (λ y z. if_else (can_end f 0xffff) _ _ s P z
        (λ may g. moved M (at (modes.ClassHex f 0 4) r) s g (by_u (eqb-true c 117 y) refl refl))
        (λ n g. no_some s g)) (λ n117 x4.
        if_else (c == 48) _ _ s P x4 (λ y z. by_zero f (letter_at c 48 y refl) z)
        (λ n48 x5. by_char f (escaped c) n120 n117 x5))))

    by_set : (o : Option (List CharRange)) (f : Option ℕ) → set_of c ≡ o → class_set o f c r ≡ Some s → P
    by_set (Some ranges) None here x =
        moved M (with_ranges ranges r) s x (by_letter (set_letter c ranges here) refl refl)
    by_set (Some ranges) (Some k) here x = no_some s x
    by_set None f here x = rest_moves f x

-- in the hexadecimal digits of a class's escape
class_hex_moves : (first : Option ℕ) (value left c : ℕ) (r s : Reading)
    → class_hex_by (hex_value c) first value left r ≡ Some s
    → HexMoves true value left (length r.groups) c (kind s) (length s.groups)
class_hex_moves first value left c r s e = by_value (hex_value c) refl e
  where
    P : Type 0
    P = HexMoves true value left (length r.groups) c (kind s) (length s.groups)

    M : Kind → ℕ → Type 0
    M = HexMoves true value left (length r.groups) c

    by_left : (d l : ℕ) → hex_value c ≡ Some d → left ≡ suc l → (o : Option ℕ)
        → class_hex_to o first (value * 16 + d) l r ≡ Some s → P
    by_left d l here is None x = no_some s x
    by_left d zero here is (Some top_char) x =
        if_else (can_end first top_char) _ _ s P x (λ may z. class_char_inside M first top_char r s z
        (by_last d here is refl refl)) (λ n z. no_some s z)
    by_left d (suc l) here is (Some top_char) x =
        if_else (can_end first top_char) _ _ s P x (λ may z. if_else (suc l == 0) _ _ s P z
        (λ y g. absurd (not_over l y)) (λ m g. moved M (at (modes.ClassHex first (value * 16 + d) (suc l)) r) s g
        (by_more d l here is refl refl))) (λ n z. no_some s z)

    by_value : (o : Option ℕ) → hex_value c ≡ o → class_hex_by o first value left r ≡ Some s → P
    by_value None here x = no_some s x
    by_value (Some d) here x = hex_guard value left None (class_hex_to (greatest_from (value * 16 + d) (left - 1)) first
        (value * 16 + d) (left - 1) r) s P x
        (λ l is y. let same : left - 1 ≡ l = omega (arith, is) in by_left d l here is (greatest_from (value * 16 + d) l)
        (subst (λ (k : ℕ). class_hex_to (greatest_from (value * 16 + d) k) first (value * 16 + d) k r ≡ Some s) same y))

-- after `(?`
question_moves : (c : ℕ) (r s : Reading) → step_in ParenQuestion c r ≡ Some s
    → Moves in_question (length r.groups) c (kind s) (length s.groups)
question_moves c r s e =
    let P : Type 0 = Moves in_question (length r.groups) c (kind s) (length s.groups) in
    let M : Kind → ℕ → Type 0 = Moves in_question (length r.groups) c in
    if_else (c == 58) _ _ s P e (λ y x. moved M (opened Group r) s x (marks_at 58 y refl, refl, refl)) (λ n58 e2.
    if_else (c == 61) _ _ s P e2 (λ y x. moved M (opened (Ahead false) r) s x (marks_at 61 y refl, refl, refl))
    (λ n61 e3.
    if_else (c == 33) _ _ s P e3 (λ y x. moved M (opened (Ahead true) r) s x (marks_at 33 y refl, refl, refl))
    (λ n33 x. no_some s x)))
  where
    marks_at : (n : ℕ) → c == n ≡ true → (n == 58 || n == 61 || n == 33) ≡ true → (c == 58 || c == 61 || c == 33) ≡ true
    marks_at n y h = subst (λ (x : ℕ). (x == 58 || x == 61 || x == 33) ≡ true) (sym (eqb-true c n y)) h

-- each character
step_moves_in : (m : Mode) (c : ℕ) (r s : Reading) → r.mode ≡ m → step_in m c r ≡ Some s
    → Moves (kind_in m r.braces) (length r.groups) c (kind s) (length s.groups)
step_moves_in Term c r s m e = plain_moves false false c r s e
step_moves_in Atom c r s m e = plain_moves true false c r s e
step_moves_in Quantified c r s m e = plain_moves false true c r s e
step_moves_in Zero c r s m e = if_else (is_ascii_digit c) _ _ s
    (Moves (kind_in Zero r.braces) (length r.groups) c (kind s) (length s.groups)) e (λ y x. no_some s x)
    (λ n x. plain_moves true false c r s x)
step_moves_in (Braces after_atom) c r s m e = braces_moves after_atom c r s m e
step_moves_in Escape c r s m e = escape_moves c r s e
step_moves_in (modes.Hex value left) c r s m e = hex_moves value left c r s e
step_moves_in Paren c r s m e = if_else (c == 63) _ _ s (ParenMoves (length r.groups) c (kind s) (length s.groups)) e
    (λ y x. moved (ParenMoves (length r.groups) c) (at ParenQuestion r) s x (by_question (eqb-true c 63 y) refl refl))
    (λ n x. by_content (eqb-false c 63 n) (plain_moves false false c (opened Group r) s x))
step_moves_in ParenQuestion c r s m e = question_moves c r s e
step_moves_in ClassOpen c r s m e =
    if_else (c == 94) _ _ s (FrontMoves (length r.groups) c (kind s) (length s.groups)) e
    (λ y x. moved (FrontMoves (length r.groups) c) (at ClassFirst (record r { negated = true })) s x
    (by_caret (eqb-true c 94 y) refl refl))
    (λ n x. by_first (eqb-false c 94 n) (item_moves c r s x))
step_moves_in ClassFirst c r s m e = item_moves c r s e
step_moves_in ClassNext c r s m e = next_item_moves c r s e
step_moves_in ClassNextDash c r s m e = next_dash_moves c r s e
step_moves_in ClassNextDashes c r s m e = next_dashes_moves c r s e
step_moves_in (modes.ClassChar first) c r s m e = after_char_moves first c r s e
step_moves_in (modes.ClassDash first) c r s m e = after_dash_moves first c r s e
step_moves_in (modes.ClassZero true) c r s m e =
    if_else (is_ascii_digit c) _ _ s (InsideMoves (length r.groups) c (kind s) (length s.groups)) e (λ y x. no_some s x)
    (λ n x. next_item_moves c r s x)
step_moves_in (modes.ClassZero false) c r s m e =
    if_else (is_ascii_digit c) _ _ s (InsideMoves (length r.groups) c (kind s) (length s.groups)) e (λ y x. no_some s x)
    (λ n x. after_char_moves 0 c r s x)
step_moves_in (modes.ClassEscape first) c r s m e = class_escape_moves first c r s e
step_moves_in (modes.ClassHex first value left) c r s m e = class_hex_moves first value left c r s e

-- a step of the machine, from kind to kind
pub step_moves : (c : ℕ) (r s : Reading) → step c r ≡ Some s
    → Moves (kind r) (length r.groups) c (kind s) (length s.groups)
step_moves c r s e = step_moves_in r.mode c r s refl e

-- what may begin at a kind of place
abbrev pub may_open_at : Kind → Bool
may_open_at outside = true
may_open_at (in_bounds bs) = true
may_open_at in_paren = true
may_open_at in_question = false
may_open_at (behind within_class) = false
may_open_at (in_hex within_class value left) = false
may_open_at class_front = false
may_open_at inside = false

abbrev pub may_escape_at : Kind → Bool
may_escape_at outside = true
may_escape_at (in_bounds bs) = true
may_escape_at in_paren = true
may_escape_at in_question = false
may_escape_at (behind within_class) = false
may_escape_at (in_hex within_class value left) = false
may_escape_at class_front = true
may_escape_at inside = true

abbrev pub pending_at : Kind → ℕ
pending_at outside = 0
pending_at (in_bounds bs) = 0
pending_at in_paren = 1
pending_at in_question = 0
pending_at (behind within_class) = 0
pending_at (in_hex within_class value left) = 0
pending_at class_front = 0
pending_at inside = 0

-- the mode allows what its kind of place allows
pub modes_agree : (m : Mode) (braces : List ℕ) → (may_open m ≡ may_open_at (kind_in m braces))
    × (may_escape m ≡ may_escape_at (kind_in m braces)) × (pending m ≡ pending_at (kind_in m braces))
modes_agree Term braces = (refl, refl, refl)
modes_agree Atom braces = (refl, refl, refl)
modes_agree Quantified braces = (refl, refl, refl)
modes_agree Zero braces = (refl, refl, refl)
modes_agree (Braces after_atom) braces = (refl, refl, refl)
modes_agree Escape braces = (refl, refl, refl)
modes_agree (modes.Hex value left) braces = (refl, refl, refl)
modes_agree Paren braces = (refl, refl, refl)
modes_agree ParenQuestion braces = (refl, refl, refl)
modes_agree ClassOpen braces = (refl, refl, refl)
modes_agree ClassFirst braces = (refl, refl, refl)
modes_agree ClassNext braces = (refl, refl, refl)
modes_agree ClassNextDash braces = (refl, refl, refl)
modes_agree ClassNextDashes braces = (refl, refl, refl)
modes_agree (modes.ClassChar first) braces = (refl, refl, refl)
modes_agree (modes.ClassDash first) braces = (refl, refl, refl)
modes_agree (modes.ClassZero is_last) braces = (refl, refl, refl)
modes_agree (modes.ClassEscape first) braces = (refl, refl, refl)
modes_agree (modes.ClassHex first value left) braces = (refl, refl, refl)
