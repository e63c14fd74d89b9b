-- What the machine has read stands at a place.
use Rattle.std.proofs.Common.{
  ◌≡◌,
  ℕ,
  zero,
  suc,
  ◌+◌,
  ◌-◌,
  ◌*◌,
  ◌<◌,
  ◌≤◌,
  Bool,
  true,
  false,
  List,
  [],
  ◌∷◌,
  ◌++◌,
  inl,
  inr,
  length,
  get_or,
  take,
  drop,
  Option,
  Some,
  refl,
  sym,
  ap,
  subst,
  ◌∙◌,
  arith,
  lit<,
}
use Rattle.std.specs.Prelude.{◌&&◌, ◌||◌, ◌⊎◌, nat_le, encode_utf8_all, encode_utf8}
use Rattle.std.proofs.lemmas.Str.{encodes-append, length-encode, len_utf8_ascii}
use Rattle.std.proofs.lemmas.List.{
  append_assoc,
  take-append-drop,
  take_at,
  drop_at,
  drop_more,
  length-append,
  length-drop,
}
use Rattle.std.proofs.lemmas.Option.{same_Some, option_and_then_some}
use Rattle.std.proofs.lemmas.Bool.{false≢true, leb-true, and_parts}
use Rattle.std.proofs.Math.Bool.{or-false}
use Rattle.es_pattern.specs.Escapes.{is_ascii_digit}
use Rattle.es_pattern.specs.Grammar.{Hex, BeginsCaret, Bounds}
use Rattle.es_pattern.specs.Places.{
  Stands,
  Within,
  groups,
  class_in_groups,
  is_structural,
  BeginsQuestion,
  AfterBackslash,
  other_escape,
  two_digit_escape,
  four_digit_escape,
}
use Rattle.es_pattern.specs.Places.{
  at_front,
  past_symbol,
  past_escape,
  in_group,
  in_marked_group,
  past_group,
  in_class,
  in_negated_class,
  past_class_char,
  past_class_escape,
  past_class,
}
use Rattle.es_pattern.specs.Refusals.{may_open, pending, is_unsupported, is_too_deep}
use Rattle.es_pattern.specs.Forms.{begins_unsupported_escape, begins_named_group, begins_group}
use Rattle.es_pattern.specs.Faults.{byte_place, IsUnsupportedAt, IsTooDeepAt, IsQuantifierAt}
use Rattle.es_pattern.specs.declared.mode.Mode.{Mode}
use Rattle.es_pattern.specs.declared.mode.Mode.TheVariants.{Braces}
use Rattle.es_pattern.specs.Reading.{Reading, step, reads, start, bounds_of}
use Rattle.es_pattern.proofs.BracesRead.{AllInner, inner-append, bounds_sound}
use Rattle.es_pattern.proofs.Moves.{
  Kind,
  outside,
  in_bounds,
  in_paren,
  in_question,
  behind,
  in_hex,
  class_front,
  inside,
  kind_in,
  kind,
  behind_escape,
  Moves,
  step_moves,
  may_open_at,
  may_escape_at,
  pending_at,
  modes_agree,
}
use Rattle.es_pattern.proofs.Moves.{
  OutsideMoves,
  by_symbol,
  by_brace,
  by_paren,
  by_close,
  by_bracket,
  by_backslash,
  BoundsMoves,
  by_inner,
  by_other,
  ParenMoves,
  by_question,
  by_content,
  EscapeMoves,
  by_letter,
  by_x,
  by_u,
  HexMoves,
  by_last,
  by_more,
  InsideMoves,
  by_end,
  by_class_backslash,
  by_member,
  FrontMoves,
  by_caret,
  by_first,
}
use Rattle.es_pattern.proofs.Digits.{digit_within}
use Rattle.es_pattern.proofs.NumberTests.{below_apart, above_apart}

-- the place of an escape, in a class or not
abbrev pub within : Bool → ℕ → Within
within false d = groups d
within true d = class_in_groups d

-- what a kind of place says of the text and what is left of it
abbrev Placed : Kind → ℕ → List ℕ → List ℕ → Type 0
Placed outside d text rest = Stands text (groups d) rest
Placed (in_bounds bs) d text rest = AllInner bs × Stands text (groups d) (123 ∷ (bs ++ rest))
Placed in_paren d text rest = Stands text (groups d) (40 ∷ rest)
Placed in_question d text rest = Stands text (groups d) (40 ∷ 63 ∷ rest)
Placed (behind in_a_class) d text rest = Stands text (within in_a_class d) (92 ∷ rest)
Placed (in_hex in_a_class value left) d text rest =
    (after : List ℕ) (ch : ℕ) → Hex left value rest after ch → Stands text (within in_a_class d) after
Placed class_front d text rest = Stands text (groups d) (91 ∷ rest)
Placed inside d text rest = Stands text (class_in_groups d) rest

-- past an escape, in a class or not
past_any_escape : (in_a_class : Bool) (d : ℕ) (text more rest : List ℕ) → Stands text (within in_a_class d) (92 ∷ more)
    → AfterBackslash more rest → Stands text (within in_a_class d) rest
past_any_escape false d text more rest h x = past_escape h x
past_any_escape true d text more rest h x = past_class_escape h x

-- where an escape has ended
behind_placed : (in_a_class : Bool) (d : ℕ) (text rest : List ℕ) → Stands text (within in_a_class d) rest
    → Placed (behind_escape in_a_class) d text rest
behind_placed false d text rest h = h
behind_placed true d text rest h = h

-- digits and commas are symbols
pub inner_symbol : (c : ℕ) → (is_ascii_digit c ≡ true) ⊎ (c ≡ 44) → is_structural c ≡ false
inner_symbol c (inl h) =
    let bounds = digit_within c h in
    rw (
      above_apart c 40 (omega (arith, bounds.0)),
      above_apart c 41 (omega (arith, bounds.0)),
      below_apart c 91 (omega (arith, bounds.1)),
      below_apart c 92 (omega (arith, bounds.1)),
    ) refl
inner_symbol c (inr h) = subst (λ (x : ℕ). is_structural x ≡ false) (sym h) refl

past_inner : (d : ℕ) (text bs rest : List ℕ) → AllInner bs → Stands text (groups d) (bs ++ rest)
    → Stands text (groups d) rest
past_inner d text [] rest inner h = h
past_inner d text (c ∷ bs) rest inner h = past_inner d text bs rest inner.1 (past_symbol h (inner_symbol c inner.0))

placed_as : (new k : Kind) (e d : ℕ) (text w : List ℕ) → new ≡ k → e ≡ d → Placed k d text w → Placed new e text w
placed_as new k e d text w at_k at_d h =
    subst (λ (j : Kind). Placed j e text w) (sym at_k) (subst (λ (n : ℕ). Placed k n text w) (sym at_d) h)

stands_at : (place : Within) (text : List ℕ) (c n : ℕ) (w : List ℕ) → c ≡ n → Stands text place (c ∷ w)
    → Stands text place (n ∷ w)
stands_at place text c n w e h = subst (λ (x : ℕ). Stands text place (x ∷ w)) e h

-- a character later, outside classes and escapes
outside_next : (d c : ℕ) (k : Kind) (e : ℕ) (text w : List ℕ) → OutsideMoves d c k e → Stands text (groups d) (c ∷ w)
    → Placed k e text w
outside_next d c k e text w (by_symbol plain_ not_brace at_k at_e) h =
    placed_as k outside e d text w at_k at_e (past_symbol h plain_)
outside_next d c k e text w (by_brace at_c at_k at_e) h =
    placed_as k (in_bounds []) e d text w at_k at_e (tt, stands_at (groups d) text c 123 w at_c h)
outside_next d c k e text w (by_paren at_c at_k at_e) h =
    placed_as k in_paren e d text w at_k at_e (stands_at (groups d) text c 40 w at_c h)
outside_next d c k e text w (by_close at_c at_k at_d) h =
    placed_as k outside e e text w at_k refl (past_group (stands_at (groups (suc e)) text c 41 w at_c
    (subst (λ (n : ℕ). Stands text (groups n) (c ∷ w)) at_d h)))
outside_next d c k e text w (by_bracket at_c at_k at_e) h =
    placed_as k class_front e d text w at_k at_e (stands_at (groups d) text c 91 w at_c h)
outside_next d c k e text w (by_backslash at_c at_k at_e) h =
    placed_as k (behind false) e d text w at_k at_e (stands_at (groups d) text c 92 w at_c h)

-- a step in a class leads to where a character further on stands
inside_next : (d c : ℕ) (k : Kind) (e : ℕ) (text w : List ℕ) → InsideMoves d c k e
    → Stands text (class_in_groups d) (c ∷ w) → Placed k e text w
inside_next d c k e text w (by_end at_c at_k at_e) h =
    placed_as k outside e d text w at_k at_e (past_class (stands_at (class_in_groups d) text c 93 w at_c h))
inside_next d c k e text w (by_class_backslash at_c at_k at_e) h =
    placed_as k (behind true) e d text w at_k at_e (stands_at (class_in_groups d) text c 92 w at_c h)
inside_next d c k e text w (by_member no_end at_k at_e) h =
    placed_as k inside e d text w at_k at_e (past_class_char h no_end)

-- a step behind a backslash leads to where a character further on stands
escape_next : (in_a_class : Bool) (d c : ℕ) (k : Kind) (e : ℕ) (text w : List ℕ) → EscapeMoves in_a_class d c k e
    → Stands text (within in_a_class d) (92 ∷ c ∷ w) → Placed k e text w
escape_next in_a_class d c k e text w (by_letter apart at_k at_e) h =
    placed_as k (behind_escape in_a_class) e d text w at_k at_e
    (behind_placed in_a_class d text w (past_any_escape in_a_class d text (c ∷ w) w h (other_escape apart)))
escape_next in_a_class d c k e text w (by_x at_c at_k at_e) h =
    placed_as k (in_hex in_a_class 0 2) e d text w at_k at_e
    (λ after ch x. past_any_escape in_a_class d text (120 ∷ w) after
    (subst (λ (n : ℕ). Stands text (within in_a_class d) (92 ∷ n ∷ w)) at_c h) (two_digit_escape x))
escape_next in_a_class d c k e text w (by_u at_c at_k at_e) h =
    placed_as k (in_hex in_a_class 0 4) e d text w at_k at_e
    (λ after ch x. past_any_escape in_a_class d text (117 ∷ w) after
    (subst (λ (n : ℕ). Stands text (within in_a_class d) (92 ∷ n ∷ w)) at_c h) (four_digit_escape x))

-- a step in hexadecimal digits leads to where a character further on stands
hex_next : (in_a_class : Bool) (value left d c : ℕ) (k : Kind) (e : ℕ) (text w : List ℕ)
    → HexMoves in_a_class value left d c k e → ((after : List ℕ) (ch : ℕ) → Hex left value (c ∷ w) after ch
    → Stands text (within in_a_class d) after) → Placed k e text w
hex_next in_a_class value left d c k e text w (by_last v is at_left at_k at_e) h =
    let last : Hex 1 value (c ∷ w) w (value * 16 + v) = (c, v, w, refl, is, (refl, refl)) in
    placed_as k (behind_escape in_a_class) e d text w at_k at_e
    (behind_placed in_a_class d text w (h w (value * 16 + v)
    (subst (λ (n : ℕ). Hex n value (c ∷ w) w (value * 16 + v)) (sym at_left) last)))
hex_next in_a_class value left d c k e text w (by_more v l is at_left at_k at_e) h =
    placed_as k (in_hex in_a_class (value * 16 + v) (suc l)) e d text w at_k at_e
    (λ after ch x. h after ch (subst (λ (n : ℕ). Hex n value (c ∷ w) after ch) (sym at_left)
    (c, v, w, refl, is, x)))

-- a step in braces, after `(` and just after `[` leads to where a character further on stands
bounds_next : (bs : List ℕ) (d c : ℕ) (k : Kind) (e : ℕ) (text w : List ℕ) → BoundsMoves bs d c k e → AllInner bs
    × Stands text (groups d) (123 ∷ (bs ++ c ∷ w)) → Placed k e text w
bounds_next bs d c k e text w (by_inner is at_k at_e) h =
    placed_as k (in_bounds (bs ++ c ∷ [])) e d text w at_k at_e (
      inner-append bs (c ∷ []) h.0 (is, tt),
      subst (λ (xs : List ℕ). Stands text (groups d) (123 ∷ xs)) (sym (append_assoc bs (c ∷ []) w)) h.1,
    )
bounds_next bs d c k e text w (by_other m) h =
    outside_next d c k e text w m (past_inner d text bs (c ∷ w) h.0 (past_symbol h.1 refl))

paren_next : (d c : ℕ) (k : Kind) (e : ℕ) (text w : List ℕ) → ParenMoves d c k e → Stands text (groups d) (40 ∷ c ∷ w)
    → Placed k e text w
paren_next d c k e text w (by_question at_c at_k at_e) h =
    placed_as k in_question e d text w at_k at_e (subst (λ (n : ℕ). Stands text (groups d) (40 ∷ n ∷ w)) at_c h)
paren_next d c k e text w (by_content apart m) h = outside_next (suc d) c k e text w m (in_group h apart)

front_next : (d c : ℕ) (k : Kind) (e : ℕ) (text w : List ℕ) → FrontMoves d c k e → Stands text (groups d) (91 ∷ c ∷ w)
    → Placed k e text w
front_next d c k e text w (by_caret at_c at_k at_e) h =
    placed_as k inside e d text w at_k at_e (in_negated_class
    (subst (λ (n : ℕ). Stands text (groups d) (91 ∷ n ∷ w)) at_c h))
front_next d c k e text w (by_first apart m) h = inside_next d c k e text w m (in_class h apart)

-- a character later
placed_next : (k : Kind) (d c : ℕ) (new : Kind) (e : ℕ) (text w : List ℕ) → Moves k d c new e → Placed k d text (c ∷ w)
    → Placed new e text w
placed_next outside d c new e text w m h = outside_next d c new e text w m h
placed_next (in_bounds bs) d c new e text w m h = bounds_next bs d c new e text w m h
placed_next in_paren d c new e text w m h = paren_next d c new e text w m h
placed_next in_question d c new e text w m h = placed_as new outside e (suc d) text w m.1 m.2 (in_marked_group h m.0)
placed_next (behind in_a_class) d c new e text w m h = escape_next in_a_class d c new e text w m h
placed_next (in_hex in_a_class value left) d c new e text w m h = hex_next in_a_class value left d c new e text w m h
placed_next class_front d c new e text w m h = front_next d c new e text w m h
placed_next inside d c new e text w m h = inside_next d c new e text w m h

-- a text later
placed_after : (front rest text : List ℕ) (s r : Reading) → reads front s ≡ Some r
    → Placed (kind s) (length s.groups) text (front ++ rest) → Placed (kind r) (length r.groups) text rest
placed_after [] rest text s r e h =
    subst (λ (x : Reading). Placed (kind x) (length x.groups) text rest) (same_Some s r e) h
placed_after (c ∷ front) rest text s r e h = option_and_then_some (reads front) (step c s) r e
    (λ next is again. placed_after front rest text next r again
    (placed_next (kind s) (length s.groups) c (kind next) (length next.groups) text (front ++ rest)
    (step_moves c s next is) h))

-- what was read of the text stands at its place
placed_at : (text : List ℕ) (n : ℕ) (r : Reading) → reads (take n text) start ≡ Some r
    → Placed (kind r) (length r.groups) text (drop n text)
placed_at text n r e = placed_after (take n text) (drop n text) text start r e
    (subst (λ (xs : List ℕ). Stands text (groups 0) xs) (sym (take-append-drop n text)) at_front)

-- `?` begins no form that isn't supported
no_form_at_question : (rest : List ℕ) → (begins_unsupported_escape rest || begins_named_group rest) ≡ true
    → BeginsQuestion rest → ⊥
no_form_at_question [] h b = b
no_form_at_question (c ∷ []) h b =
    false≢true (subst (λ (n : ℕ). (begins_unsupported_escape (n ∷ []) || begins_named_group (n ∷ [])) ≡ true) b h)
no_form_at_question (c ∷ x ∷ []) h b = false≢true (subst (λ (n : ℕ).
    (begins_unsupported_escape (n ∷ x ∷ []) || begins_named_group (n ∷ x ∷ [])) ≡ true) b h)
no_form_at_question (c ∷ x ∷ y ∷ rest) h b = false≢true (subst
    (λ (n : ℕ). (begins_unsupported_escape (n ∷ x ∷ y ∷ rest) || begins_named_group (n ∷ x ∷ y ∷ rest)) ≡ true) b h)

-- `^` begins no escape
no_escape_at_caret : (rest : List ℕ) → begins_unsupported_escape rest ≡ true → BeginsCaret rest → ⊥
no_escape_at_caret [] h b = b
no_escape_at_caret (c ∷ []) h b = absurd (false≢true h)
no_escape_at_caret (c ∷ x ∷ rest) h b =
    false≢true (subst (λ (n : ℕ). begins_unsupported_escape (n ∷ x ∷ rest) ≡ true) b h)

-- `?` begins no group
no_group_at_question : (rest : List ℕ) → begins_group rest ≡ true → BeginsQuestion rest → ⊥
no_group_at_question [] h b = b
no_group_at_question (c ∷ rest) h b = false≢true (subst (λ (n : ℕ). begins_group (n ∷ rest) ≡ true) b h)

-- a form that isn't supported, or a group too deep, where what is left of the text begins
abbrev UnsupportedHere : List ℕ → List ℕ → Type 0
UnsupportedHere text rest = ((depth : ℕ) × Stands text (groups depth) rest
    × ((begins_unsupported_escape rest || begins_named_group rest) ≡ true))
    ⊎ ((depth : ℕ) × Stands text (class_in_groups depth) rest × (begins_unsupported_escape rest ≡ true))

abbrev TooDeepHere : List ℕ → List ℕ → Type 0
TooDeepHere text rest = (depth : ℕ) × Stands text (groups depth) rest × (200 ≤ depth) × (begins_group rest ≡ true)

-- what a kind of place refuses stands there
unsupported_kind : (k : Kind) (d : ℕ) (text rest : List ℕ) → Placed k d text rest → may_escape_at k
    && begins_unsupported_escape rest || may_open_at k && begins_named_group rest ≡ true → UnsupportedHere text rest
unsupported_kind outside d text rest h e = inl (d, h, e)
unsupported_kind (in_bounds bs) d text rest h e = inl (d, past_inner d text bs rest h.0 (past_symbol h.1 refl), e)
unsupported_kind in_paren d text rest h e = inl (suc d, in_group h (no_form_at_question rest e), e)
unsupported_kind in_question d text rest h e = absurd (false≢true e)
unsupported_kind (behind in_a_class) d text rest h e = absurd (false≢true e)
unsupported_kind (in_hex in_a_class value left) d text rest h e = absurd (false≢true e)
unsupported_kind class_front d text rest h e = let begins = sym (or-false (begins_unsupported_escape rest)) ∙ e in
    inr (d, in_class h (no_escape_at_caret rest begins), begins)
unsupported_kind inside d text rest h e = inr (d, h, sym (or-false (begins_unsupported_escape rest)) ∙ e)

-- where the machine refuses a form that isn't supported, one stands
pub unsupported_placed : (text : List ℕ) (n : ℕ) (r : Reading) → n ≤ length text → reads (take n text) start ≡ Some r
    → is_unsupported r.mode (drop n text) ≡ true → IsUnsupportedAt text n
unsupported_placed text n r le e h =
    let same = modes_agree r.mode r.braces in
    let rest = drop n text in
    unsupported_kind (kind r) (length r.groups) text rest (placed_at text n r e)
    (subst (λ (b : Bool). may_escape_at (kind r) && begins_unsupported_escape rest || b
    && begins_named_group rest ≡ true) same.0 (subst (λ (b : Bool). b && begins_unsupported_escape rest
    || may_open r.mode && begins_named_group rest ≡ true) same.1 h))

-- a group too deep, where what is left of the text begins
deep_kind : (k : Kind) (d : ℕ) (text rest : List ℕ) → Placed k d text rest → may_open_at k && begins_group rest
    && nat_le 200 (d + pending_at k) ≡ true → TooDeepHere text rest
deep_kind outside d text rest h e = let parts = and_parts (begins_group rest) (nat_le 200 (d + 0)) e in let deep =
    leb-true 200 (d + 0) parts.1 in (d, h, omega (arith, deep), parts.0)
deep_kind (in_bounds bs) d text rest h e = let parts = and_parts (begins_group rest) (nat_le 200 (d + 0)) e in
    let deep = leb-true 200 (d + 0) parts.1 in
    (d, past_inner d text bs rest h.0 (past_symbol h.1 refl), omega (arith, deep), parts.0)
deep_kind in_paren d text rest h e = let parts = and_parts (begins_group rest) (nat_le 200 (d + 1)) e in let deep =
    leb-true 200 (d + 1) parts.1 in (
      suc d,
      in_group h (no_group_at_question rest parts.0),
      omega (arith, deep),
      parts.0,
    )
deep_kind in_question d text rest h e = absurd (false≢true e)
deep_kind (behind in_a_class) d text rest h e = absurd (false≢true e)
deep_kind (in_hex in_a_class value left) d text rest h e = absurd (false≢true e)
deep_kind class_front d text rest h e = absurd (false≢true e)
deep_kind inside d text rest h e = absurd (false≢true e)

-- where the machine refuses a group too deep, one stands
pub deep_placed : (text : List ℕ) (n : ℕ) (r : Reading) → n ≤ length text → reads (take n text) start ≡ Some r
    → is_too_deep (length r.groups) r.mode (drop n text) ≡ true → IsTooDeepAt text n
deep_placed text n r le e h =
    let same = modes_agree r.mode r.braces in
    let rest = drop n text in
    deep_kind (kind r) (length r.groups) text rest (placed_at text n r e)
    (subst (λ (p : ℕ). may_open_at (kind r) && begins_group rest && nat_le 200 (length r.groups + p) ≡ true) same.2
    (subst (λ (b : Bool). b && begins_group rest && nat_le 200 (length r.groups + pending r.mode) ≡ true) same.0 h))

-- what is left of a text at a place is its end
abbrev EndsWith : List ℕ → List ℕ → Type 0
EndsWith text rest = (front : List ℕ) × (text ≡ front ++ rest)

-- the end after its first character, and the end of an end
further : (text : List ℕ) (c : ℕ) (rest : List ℕ) → EndsWith text (c ∷ rest) → EndsWith text rest
further text c rest h = (h.0 ++ c ∷ [], h.1 ∙ sym (append_assoc h.0 (c ∷ []) rest))

beyond : (text more rest : List ℕ) → EndsWith text more → EndsWith more rest → EndsWith text rest
beyond text more rest h g = (h.0 ++ g.0, h.1 ∙ ap (λ (xs : List ℕ). h.0 ++ xs) g.1 ∙ sym (append_assoc h.0 g.0 rest))

hex_ends : (left value : ℕ) (more rest : List ℕ) (ch : ℕ) → Hex left value more rest ch → EndsWith more rest
hex_ends zero value more rest ch h = ([], h.0)
hex_ends (suc left) value more rest ch h =
    let g = hex_ends left (value * 16 + h.1) h.2 rest ch h.5 in (h.0 ∷ g.0, h.3 ∙ ap (λ (xs : List ℕ). h.0 ∷ xs) g.1)

escaped_ends : (more rest : List ℕ) → AfterBackslash more rest → EndsWith more rest
escaped_ends more rest (other_escape {c = c} apart) = (c ∷ [], refl)
escaped_ends more rest (two_digit_escape {text = text} {c = c} h) =
    let g = hex_ends 2 0 text rest c h in (120 ∷ g.0, ap (λ (xs : List ℕ). 120 ∷ xs) g.1)
escaped_ends more rest (four_digit_escape {text = text} {c = c} h) =
    let g = hex_ends 4 0 text rest c h in (117 ∷ g.0, ap (λ (xs : List ℕ). 117 ∷ xs) g.1)

-- what is left at a place is the end of the text
stands_ends : (text : List ℕ) (place : Within) (rest : List ℕ) → Stands text place rest → EndsWith text rest
stands_ends text place rest at_front = ([], refl)
stands_ends text place rest (past_symbol {depth = d} {c = c} h apart) =
    further text c rest (stands_ends text (groups d) (c ∷ rest) h)
stands_ends text place rest (past_escape {depth = d} {more = more} h x) =
    beyond text more rest (further text 92 more (stands_ends text (groups d) (92 ∷ more) h)) (escaped_ends more rest x)
stands_ends text place rest (in_group {depth = d} h apart) =
    further text 40 rest (stands_ends text (groups d) (40 ∷ rest) h)
stands_ends text place rest (in_marked_group {depth = d} {c = c} h is) =
    further text c rest (further text 63 (c ∷ rest) (further text 40 (63 ∷ c ∷ rest)
    (stands_ends text (groups d) (40 ∷ 63 ∷ c ∷ rest) h)))
stands_ends text place rest (past_group {depth = d} h) =
    further text 41 rest (stands_ends text (groups (suc d)) (41 ∷ rest) h)
stands_ends text place rest (in_class {depth = d} h apart) =
    further text 91 rest (stands_ends text (groups d) (91 ∷ rest) h)
stands_ends text place rest (in_negated_class {depth = d} h) =
    further text 94 rest (further text 91 (94 ∷ rest) (stands_ends text (groups d) (91 ∷ 94 ∷ rest) h))
stands_ends text place rest (past_class_char {depth = d} {c = c} h apart) =
    further text c rest (stands_ends text (class_in_groups d) (c ∷ rest) h)
stands_ends text place rest (past_class_escape {depth = d} {more = more} h x) =
    beyond text more rest (further text 92 more (stands_ends text (class_in_groups d) (92 ∷ more) h))
    (escaped_ends more rest x)
stands_ends text place rest (past_class {depth = d} h) =
    further text 93 rest (stands_ends text (class_in_groups d) (93 ∷ rest) h)

one_byte_more : (c : ℕ) (cs : List ℕ) → c < 128 → length (encode_utf8_all (c ∷ cs)) ≡ length (encode_utf8_all cs) + 1
one_byte_more c cs low =
    omega (arith, length-append (encode_utf8 c) (encode_utf8_all cs), length-encode c, len_utf8_ascii c low)

inner_low : (c : ℕ) → (is_ascii_digit c ≡ true) ⊎ (c ≡ 44) → c < 128
inner_low c (inl h) = omega (arith, digit_within c h)
inner_low c (inr h) = omega (arith, h)

-- digits and commas take a byte each
inner_bytes : (bs : List ℕ) → AllInner bs → length (encode_utf8_all bs) ≡ length bs
inner_bytes [] h = refl
inner_bytes (c ∷ bs) h = omega (arith, one_byte_more c bs (inner_low c h.0), inner_bytes bs h.1)

-- a quantifier in braces that ends at a place stands there
quantifier_ends : (text : List ℕ) (n : ℕ) (bs : List ℕ) (d least : ℕ) (most : Option ℕ) → n < length text
    → get_or text n 0 ≡ 125 → Bounds bs least most → AllInner bs → Stands text (groups d) (123 ∷ (bs ++ drop n text))
    → EndsWith text (123 ∷ (bs ++ drop n text))
    → (q : ℕ) × (q + (length bs + 1) ≡ n) × IsQuantifierAt text q bs least most
    × (byte_place text q + (length bs + 1) ≡ byte_place text n)
quantifier_ends text n bs d least most lt c bounds inner h (front, e) = (
  length front,
  place_is,
  record {
    depth = d;
    place =
        subst (λ (xs : List ℕ). Stands text (groups d) xs) (sym left_is) h;
    rest = drop (n + 1) text;
    braces = left_is
        ∙ ap (λ (xs : List ℕ). 123 ∷ (bs ++ xs)) rest_is;
    are_bounds = bounds;
  },
  bytes_are,
)
  where
    place_is : length front + (length bs + 1) ≡ n
    place_is =
        let whole : length text ≡ length front + length (123 ∷ (bs ++ drop n text)) =
        ap length e ∙ length-append front (123 ∷ (bs ++ drop n text)) in
        let part : length (bs ++ drop n text) ≡ length bs + length (drop n text) = length-append bs (drop n text) in
        let last : length (drop n text) ≡ length text - n = length-drop n text in
        omega (arith, whole, part, last)

    left_is : drop (length front) text ≡ 123 ∷ (bs ++ drop n text)
    left_is = ap (drop (length front)) e ∙ drop_at front (123 ∷ (bs ++ drop n text)) (length front) refl

    rest_is : drop n text ≡ 125 ∷ drop (n + 1) text
    rest_is = drop_more text n 0 lt ∙ ap (λ (x : ℕ). x ∷ drop (n + 1) text) c

    split : text ≡ (front ++ 123 ∷ bs) ++ drop n text
    split = e ∙ sym (append_assoc front (123 ∷ bs) (drop n text))

    taken : take n text ≡ front ++ 123 ∷ bs
    taken = ap (take n) split ∙ take_at (front ++ 123 ∷ bs) (drop n text) n
        (omega (arith, length-append front (123 ∷ bs), place_is))

    front_is : take (length front) text ≡ front
    front_is = ap (take (length front)) e ∙ take_at front (123 ∷ (bs ++ drop n text)) (length front) refl

    bytes_are : byte_place text (length front) + (length bs + 1) ≡ byte_place text n
    bytes_are =
        let before : byte_place text (length front) ≡ length (encode_utf8_all front) =
        ap (λ (xs : List ℕ). length (encode_utf8_all xs)) front_is in
        let all : byte_place text n ≡ length (encode_utf8_all front ++ encode_utf8_all (123 ∷ bs)) =
        ap (λ (xs : List ℕ). length (encode_utf8_all xs)) taken ∙ ap length (encodes-append front (123 ∷ bs)) in
        omega (
          arith,
          before,
          all,
          length-append (encode_utf8_all front) (encode_utf8_all (123 ∷ bs)),
          one_byte_more 123 bs (lit< tt),
          inner_bytes bs inner,
        )

-- where the machine ends a quantifier in braces, one stands
pub quantifier_placed : (text : List ℕ) (n : ℕ) (r : Reading) (after_atom : Bool) (least : ℕ) (most : Option ℕ)
    → n < length text → reads (take n text) start ≡ Some r → r.mode ≡ Braces after_atom → get_or text n 0 ≡ 125
    → bounds_of r.braces ≡ Some (least, most)
    → (q : ℕ) × (q + (length r.braces + 1) ≡ n) × IsQuantifierAt text q r.braces least most
    × (byte_place text q + (length r.braces + 1) ≡ byte_place text n)
quantifier_placed text n r after_atom least most lt e m c b =
    let placed : Placed (in_bounds r.braces) (length r.groups) text (drop n text) =
    subst (λ (k : Mode). Placed (kind_in k r.braces) (length r.groups) text (drop n text)) m
    (placed_at text n r e) in
    quantifier_ends text n r.braces (length r.groups) least most lt c (bounds_sound r.braces least most b) placed.0
    placed.1 (stands_ends text (groups (length r.groups)) (123 ∷ (r.braces ++ drop n text)) placed.1)
