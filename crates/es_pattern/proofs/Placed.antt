-- What stands at a place is what the machine says there, wherever it comes so far.
use Rattle.std.proofs.Common.{
  ◌≡◌,
  ℕ,
  zero,
  suc,
  ◌+◌,
  ◌-◌,
  ◌*◌,
  ◌<◌,
  ◌≤◌,
  Bool,
  true,
  false,
  List,
  [],
  ◌∷◌,
  ◌++◌,
  inl,
  inr,
  length,
  take,
  drop,
  Option,
  Some,
  refl,
  sym,
  ap,
  subst,
  ◌∙◌,
  arith,
}
use Rattle.std.specs.Prelude.{◌==◌, ◌&&◌, ◌||◌, ◌⊎◌, cond, nat_le, option_and_then}
use Rattle.std.proofs.lemmas.List.{
  append_assoc,
  append-nil,
  take-append-drop,
  take_at,
  length-append,
  length-drop,
  length-take-le,
}
use Rattle.std.proofs.lemmas.Option.{same_Some, option_and_then_some}
use Rattle.std.proofs.lemmas.Bool.{false≢true, le-leb}
use Rattle.es_pattern.specs.Escapes.{hex_value}
use Rattle.es_pattern.specs.Grammar.{Hex, Bounds}
use Rattle.es_pattern.specs.Places.{
  Stands,
  Within,
  groups,
  class_in_groups,
  is_structural,
  BeginsQuestion,
  AfterBackslash,
  other_escape,
  two_digit_escape,
  four_digit_escape,
}
use Rattle.es_pattern.specs.Places.{
  at_front,
  past_symbol,
  past_escape,
  in_group,
  in_marked_group,
  past_group,
  in_class,
  in_negated_class,
  past_class_char,
  past_class_escape,
  past_class,
}
use Rattle.es_pattern.specs.Refusals.{may_open, pending, is_unsupported, is_too_deep}
use Rattle.es_pattern.specs.Forms.{begins_unsupported_escape, begins_named_group, begins_group}
use Rattle.es_pattern.specs.Faults.{IsUnsupportedAt, IsTooDeepAt, IsQuantifierAt}
use Rattle.es_pattern.specs.declared.mode.Open.TheVariants.{Group}
use Rattle.es_pattern.specs.declared.mode.Mode.{Mode}
use Rattle.es_pattern.specs.declared.mode.Mode.TheVariants.{
  Term,
  Atom,
  Quantified,
  Zero,
  Braces,
  Escape,
  Paren,
  ParenQuestion,
  ClassOpen,
  ClassFirst,
  ClassNext,
  ClassNextDash,
  ClassNextDashes,
}
use Rattle.es_pattern.specs.declared.mode.Mode.TheVariants as modes
use Rattle.es_pattern.specs.Reading.{
  Reading,
  step,
  step_in,
  in_braces_end,
  bounds_of,
  plain,
  reads,
  start,
  at,
  flushed,
  opened,
  is_inner,
}
use Rattle.es_pattern.proofs.BracesRead.{goes_on}
use Rattle.es_pattern.proofs.Parsings.{reads-append}
use Rattle.es_pattern.proofs.Moves.{
  Kind,
  outside,
  in_bounds,
  in_paren,
  in_question,
  behind,
  in_hex,
  class_front,
  inside,
  kind,
  behind_escape,
  Moves,
  step_moves,
  may_open_at,
  may_escape_at,
  pending_at,
  modes_agree,
}
use Rattle.es_pattern.proofs.Moves.{
  OutsideMoves,
  by_symbol,
  by_brace,
  by_paren,
  by_close,
  by_bracket,
  by_backslash,
  BoundsMoves,
  by_inner,
  by_other,
  ParenMoves,
  by_question,
  by_content,
  EscapeMoves,
  by_letter,
  by_x,
  by_u,
  HexMoves,
  by_last,
  by_more,
  InsideMoves,
  by_end,
  by_class_backslash,
  by_member,
  FrontMoves,
  by_caret,
  by_first,
}
use Rattle.es_pattern.proofs.Placing.{inner_symbol}

-- the machine, within d groups, is at a kind of place that the tokens before the rest lead to
abbrev Agrees : Within → Kind → ℕ → List ℕ → Type 0
Agrees (groups depth) outside d rest = d ≡ depth
Agrees (groups depth) (in_bounds bs) d rest = d ≡ depth
Agrees (groups depth) in_paren d rest = (suc d ≡ depth) × (BeginsQuestion rest → ⊥)
Agrees (groups depth) in_question d rest = ⊥
Agrees (groups depth) (behind in_a_class) d rest = ⊥
Agrees (groups depth) (in_hex in_a_class value left) d rest = ⊥
Agrees (groups depth) class_front d rest = ⊥
Agrees (groups depth) inside d rest = ⊥
Agrees (class_in_groups depth) outside d rest = ⊥
Agrees (class_in_groups depth) (in_bounds bs) d rest = ⊥
Agrees (class_in_groups depth) in_paren d rest = ⊥
Agrees (class_in_groups depth) in_question d rest = ⊥
Agrees (class_in_groups depth) (behind in_a_class) d rest = ⊥
Agrees (class_in_groups depth) (in_hex in_a_class value left) d rest = ⊥
Agrees (class_in_groups depth) class_front d rest = d ≡ depth
Agrees (class_in_groups depth) inside d rest = d ≡ depth

-- at exactly this kind of place, within so many groups
abbrev Exactly : Kind → ℕ → Kind → ℕ → Type 0
Exactly at_kind depth k d = (k ≡ at_kind) × (d ≡ depth)

-- wherever the machine comes up to the rest of the text, this holds of it
abbrev Told : List ℕ → List ℕ → (Kind → ℕ → Type 0) → Type 0
Told text rest Q = (front : List ℕ) × (text ≡ front ++ rest)
    × ((r : Reading) → reads front start ≡ Some r → Q (kind r) (length r.groups))

-- a character later
told_next : (text : List ℕ) (c : ℕ) (rest : List ℕ) (Q R : Kind → ℕ → Type 0) → Told text (c ∷ rest) Q
    → ((k : Kind) (d : ℕ) (new : Kind) (e : ℕ) → Q k d → Moves k d c new e → R new e) → Told text rest R
told_next text c rest Q R h next = (h.0 ++ c ∷ [], h.1 ∙ sym (append_assoc h.0 (c ∷ []) rest), then_)
  where
    then_ : (r : Reading) → reads (h.0 ++ c ∷ []) start ≡ Some r → R (kind r) (length r.groups)
    then_ r e = option_and_then_some (reads (c ∷ [])) (reads h.0 start) r (sym (reads-append h.0 (c ∷ []) start) ∙ e)
        (λ s is again. option_and_then_some (reads []) (step c s) r again (λ last stepped same.
        subst (λ (x : Reading). R (kind x) (length x.groups)) (same_Some last r same)
        (next (kind s) (length s.groups) (kind last) (length last.groups) (h.2 s is)
        (step_moves c s last stepped))))

-- less holds too
told_as : (text rest : List ℕ) (Q R : Kind → ℕ → Type 0) → Told text rest Q → ((k : Kind) (d : ℕ) → Q k d → R k d)
    → Told text rest R
told_as text rest Q R h weaker = (h.0, h.1, λ r e. weaker (kind r) (length r.groups) (h.2 r e))

-- outside classes and escapes: a character that may follow there, or one more of braces
abbrev OutsideStep : ℕ → ℕ → Kind → ℕ → Type 0
OutsideStep depth c new e =
    OutsideMoves depth c new e ⊎ ((bs : List ℕ) × (is_structural c ≡ false) × (new ≡ in_bounds bs) × (e ≡ depth))

bounds_moves : (bs : List ℕ) (d c : ℕ) (new : Kind) (e depth : ℕ) → d ≡ depth → BoundsMoves bs d c new e
    → OutsideStep depth c new e
bounds_moves bs d c new e depth h (by_inner is at_k at_e) = inr (bs ++ c ∷ [], inner_symbol c is, at_k, at_e ∙ h)
bounds_moves bs d c new e depth h (by_other m) = inl (subst (λ (n : ℕ). OutsideMoves n c new e) h m)

paren_moves : (d c : ℕ) (new : Kind) (e depth : ℕ) → suc d ≡ depth → (c ≡ 63 → ⊥) → ParenMoves d c new e
    → OutsideStep depth c new e
paren_moves d c new e depth h apart (by_question at_c at_k at_e) = absurd (apart at_c)
paren_moves d c new e depth h apart (by_content n m) = inl (subst (λ (n : ℕ). OutsideMoves n c new e) h m)

outside_moves : (k : Kind) (d c : ℕ) (new : Kind) (e depth : ℕ) (w : List ℕ) → Agrees (groups depth) k d (c ∷ w)
    → Moves k d c new e → OutsideStep depth c new e
outside_moves outside d c new e depth w h m = inl (subst (λ (n : ℕ). OutsideMoves n c new e) h m)
outside_moves (in_bounds bs) d c new e depth w h m = bounds_moves bs d c new e depth h m
outside_moves in_paren d c new e depth w h m = paren_moves d c new e depth h.0 h.1 m
outside_moves in_question d c new e depth w h m = absurd h
outside_moves (behind in_a_class) d c new e depth w h m = absurd h
outside_moves (in_hex in_a_class value left) d c new e depth w h m = absurd h
outside_moves class_front d c new e depth w h m = absurd h
outside_moves inside d c new e depth w h m = absurd h

-- what agrees with a place agrees with it at an equal kind
agrees_as : (place : Within) (new k : Kind) (e d : ℕ) (w : List ℕ) → new ≡ k → e ≡ d → Agrees place k d w
    → Agrees place new e w
agrees_as place new k e d w at_k at_d h =
    subst (λ (j : Kind). Agrees place j e w) (sym at_k) (subst (λ (n : ℕ). Agrees place k n w) (sym at_d) h)

-- a structural character is one
structural : (c n : ℕ) → c ≡ n → is_structural n ≡ true → is_structural c ≡ false → ⊥
structural c n at_c is apart = false≢true (sym apart ∙ ap is_structural at_c ∙ is)

-- a character that is no structural one
symbol_agrees : (c : ℕ) (new : Kind) (e depth : ℕ) (w : List ℕ) → is_structural c ≡ false → OutsideStep depth c new e
    → Agrees (groups depth) new e w
symbol_agrees c new e depth w apart (inl (by_symbol x not_brace at_k at_e)) =
    agrees_as (groups depth) new outside e depth w at_k at_e refl
symbol_agrees c new e depth w apart (inl (by_brace at_c at_k at_e)) =
    agrees_as (groups depth) new (in_bounds []) e depth w at_k at_e refl
symbol_agrees c new e depth w apart (inl (by_paren at_c at_k at_e)) = absurd (structural c 40 at_c refl apart)
symbol_agrees c new e depth w apart (inl (by_close at_c at_k at_e)) = absurd (structural c 41 at_c refl apart)
symbol_agrees c new e depth w apart (inl (by_bracket at_c at_k at_e)) = absurd (structural c 91 at_c refl apart)
symbol_agrees c new e depth w apart (inl (by_backslash at_c at_k at_e)) = absurd (structural c 92 at_c refl apart)
symbol_agrees c new e depth w apart (inr m) = agrees_as (groups depth) new (in_bounds m.0) e depth w m.2 m.3 refl

-- what each structural character leads to
at_open : (new : Kind) (e depth : ℕ) → OutsideStep depth 40 new e → Exactly in_paren depth new e
at_open new e depth (inl (by_symbol x not_brace at_k at_e)) = absurd (false≢true (sym x))
at_open new e depth (inl (by_brace at_c at_k at_e)) = absurd (omega (arith, at_c))
at_open new e depth (inl (by_paren at_c at_k at_e)) = (at_k, at_e)
at_open new e depth (inl (by_close at_c at_k at_e)) = absurd (omega (arith, at_c))
at_open new e depth (inl (by_bracket at_c at_k at_e)) = absurd (omega (arith, at_c))
at_open new e depth (inl (by_backslash at_c at_k at_e)) = absurd (omega (arith, at_c))
at_open new e depth (inr m) = absurd (false≢true (sym m.1))

at_close : (new : Kind) (e depth : ℕ) → OutsideStep (suc depth) 41 new e → Exactly outside depth new e
at_close new e depth (inl (by_symbol x not_brace at_k at_e)) = absurd (false≢true (sym x))
at_close new e depth (inl (by_brace at_c at_k at_e)) = absurd (omega (arith, at_c))
at_close new e depth (inl (by_paren at_c at_k at_e)) = absurd (omega (arith, at_c))
at_close new e depth (inl (by_close at_c at_k at_e)) = (at_k, omega (arith, at_e))
at_close new e depth (inl (by_bracket at_c at_k at_e)) = absurd (omega (arith, at_c))
at_close new e depth (inl (by_backslash at_c at_k at_e)) = absurd (omega (arith, at_c))
at_close new e depth (inr m) = absurd (false≢true (sym m.1))

at_bracket : (new : Kind) (e depth : ℕ) → OutsideStep depth 91 new e → Exactly class_front depth new e
at_bracket new e depth (inl (by_symbol x not_brace at_k at_e)) = absurd (false≢true (sym x))
at_bracket new e depth (inl (by_brace at_c at_k at_e)) = absurd (omega (arith, at_c))
at_bracket new e depth (inl (by_paren at_c at_k at_e)) = absurd (omega (arith, at_c))
at_bracket new e depth (inl (by_close at_c at_k at_e)) = absurd (omega (arith, at_c))
at_bracket new e depth (inl (by_bracket at_c at_k at_e)) = (at_k, at_e)
at_bracket new e depth (inl (by_backslash at_c at_k at_e)) = absurd (omega (arith, at_c))
at_bracket new e depth (inr m) = absurd (false≢true (sym m.1))

at_backslash : (new : Kind) (e depth : ℕ) → OutsideStep depth 92 new e → Exactly (behind false) depth new e
at_backslash new e depth (inl (by_symbol x not_brace at_k at_e)) = absurd (false≢true (sym x))
at_backslash new e depth (inl (by_brace at_c at_k at_e)) = absurd (omega (arith, at_c))
at_backslash new e depth (inl (by_paren at_c at_k at_e)) = absurd (omega (arith, at_c))
at_backslash new e depth (inl (by_close at_c at_k at_e)) = absurd (omega (arith, at_c))
at_backslash new e depth (inl (by_bracket at_c at_k at_e)) = absurd (omega (arith, at_c))
at_backslash new e depth (inl (by_backslash at_c at_k at_e)) = (at_k, at_e)
at_backslash new e depth (inr m) = absurd (false≢true (sym m.1))

-- in classes: a character that may follow there, or the `^` at the front
abbrev InsideStep : ℕ → ℕ → Kind → ℕ → Type 0
InsideStep depth c new e = InsideMoves depth c new e ⊎ ((c ≡ 94) × (new ≡ inside) × (e ≡ depth))

front_moves : (d c : ℕ) (new : Kind) (e depth : ℕ) → d ≡ depth → FrontMoves d c new e → InsideStep depth c new e
front_moves d c new e depth h (by_caret at_c at_k at_e) = inr (at_c, at_k, at_e ∙ h)
front_moves d c new e depth h (by_first apart m) = inl (subst (λ (n : ℕ). InsideMoves n c new e) h m)

inside_moves : (k : Kind) (d c : ℕ) (new : Kind) (e depth : ℕ) (w : List ℕ) → Agrees (class_in_groups depth) k d (c ∷ w)
    → Moves k d c new e → InsideStep depth c new e
inside_moves outside d c new e depth w h m = absurd h
inside_moves (in_bounds bs) d c new e depth w h m = absurd h
inside_moves in_paren d c new e depth w h m = absurd h
inside_moves in_question d c new e depth w h m = absurd h
inside_moves (behind in_a_class) d c new e depth w h m = absurd h
inside_moves (in_hex in_a_class value left) d c new e depth w h m = absurd h
inside_moves class_front d c new e depth w h m = front_moves d c new e depth h m
inside_moves inside d c new e depth w h m = inl (subst (λ (n : ℕ). InsideMoves n c new e) h m)

ending : (c n : ℕ) → c ≡ n → (n == 93 || n == 92) ≡ true → (c == 93 || c == 92) ≡ false → ⊥
ending c n at_c is apart = false≢true (sym apart ∙ ap (λ (x : ℕ). x == 93 || x == 92) at_c ∙ is)

-- a class's character
member_agrees : (c : ℕ) (new : Kind) (e depth : ℕ) (w : List ℕ) → (c == 93 || c == 92) ≡ false
    → InsideStep depth c new e → Agrees (class_in_groups depth) new e w
member_agrees c new e depth w apart (inl (by_end at_c at_k at_e)) = absurd (ending c 93 at_c refl apart)
member_agrees c new e depth w apart (inl (by_class_backslash at_c at_k at_e)) = absurd (ending c 92 at_c refl apart)
member_agrees c new e depth w apart (inl (by_member x at_k at_e)) =
    agrees_as (class_in_groups depth) new inside e depth w at_k at_e refl
member_agrees c new e depth w apart (inr m) = agrees_as (class_in_groups depth) new inside e depth w m.1 m.2 refl

at_end_bracket : (new : Kind) (e depth : ℕ) → InsideStep depth 93 new e → Exactly outside depth new e
at_end_bracket new e depth (inl (by_end at_c at_k at_e)) = (at_k, at_e)
at_end_bracket new e depth (inl (by_class_backslash at_c at_k at_e)) = absurd (omega (arith, at_c))
at_end_bracket new e depth (inl (by_member x at_k at_e)) = absurd (false≢true (sym x))
at_end_bracket new e depth (inr m) = absurd (omega (arith, m.0))

at_class_backslash : (new : Kind) (e depth : ℕ) → InsideStep depth 92 new e → Exactly (behind true) depth new e
at_class_backslash new e depth (inl (by_end at_c at_k at_e)) = absurd (omega (arith, at_c))
at_class_backslash new e depth (inl (by_class_backslash at_c at_k at_e)) = (at_k, at_e)
at_class_backslash new e depth (inl (by_member x at_k at_e)) = absurd (false≢true (sym x))
at_class_backslash new e depth (inr m) = absurd (omega (arith, m.0))

-- escapes
exact_moves : (at_kind : Kind) (depth : ℕ) (k : Kind) (d c : ℕ) (new : Kind) (e : ℕ) → Exactly at_kind depth k d
    → Moves k d c new e → Moves at_kind depth c new e
exact_moves at_kind depth k d c new e h m =
    subst (λ (n : ℕ). Moves at_kind n c new e) h.1 (subst (λ (j : Kind). Moves j d c new e) h.0 m)

last_moves : (in_a_class : Bool) (value depth c : ℕ) (new : Kind) (e : ℕ) → HexMoves in_a_class value 1 depth c new e
    → Exactly (behind_escape in_a_class) depth new e
last_moves in_a_class value depth c new e (by_last v is at_left at_k at_e) = (at_k, at_e)
last_moves in_a_class value depth c new e (by_more v l is at_left at_k at_e) = absurd (omega (arith, at_left))

more_moves : (in_a_class : Bool) (value left depth c v : ℕ) (new : Kind) (e : ℕ) → hex_value c ≡ Some v
    → HexMoves in_a_class value (suc (suc left)) depth c new e
    → Exactly (in_hex in_a_class (value * 16 + v) (suc left)) depth new e
more_moves in_a_class value left depth c v new e here (by_last w is at_left at_k at_e) = absurd (omega (arith, at_left))
more_moves in_a_class value left depth c v new e here (by_more w l is at_left at_k at_e) =
    let same_value : w ≡ v = same_Some w v (sym is ∙ here) in
    let same_left : suc l ≡ suc left = omega (arith, at_left) in (
      at_k ∙ ap (λ (n : ℕ). in_hex in_a_class (value * 16 + n) (suc l)) same_value
          ∙ ap (in_hex in_a_class (value * 16 + v)) same_left,
      at_e,
    )

-- to the end of an escape's digits
hex_told : (in_a_class : Bool) (left value depth : ℕ) (text more rest : List ℕ) (ch : ℕ)
    → Hex (suc left) value more rest ch → Told text more (Exactly (in_hex in_a_class value (suc left)) depth)
    → Told text rest (Exactly (behind_escape in_a_class) depth)
hex_told in_a_class zero value depth text more rest ch h t =
    let here = subst (λ (xs : List ℕ). Told text xs (Exactly (in_hex in_a_class value 1) depth)) h.3 t in
    subst (λ (xs : List ℕ). Told text xs (Exactly (behind_escape in_a_class) depth)) h.5.0
    (told_next text h.0 h.2 (Exactly (in_hex in_a_class value 1) depth) (Exactly (behind_escape in_a_class) depth) here
    (λ k d new e x m. last_moves in_a_class value depth h.0 new e
    (exact_moves (in_hex in_a_class value 1) depth k d h.0 new e x m)))
hex_told in_a_class (suc left) value depth text more rest ch h t =
    let here = subst (λ (xs : List ℕ). Told text xs (Exactly (in_hex in_a_class value (suc (suc left))) depth)) h.3 t in
    hex_told in_a_class left (value * 16 + h.1) depth text h.2 rest ch h.5
    (told_next text h.0 h.2 (Exactly (in_hex in_a_class value (suc (suc left))) depth)
    (Exactly (in_hex in_a_class (value * 16 + h.1) (suc left)) depth) here
    (λ k d new e x m. more_moves in_a_class value left depth h.0 h.1 new e h.4
    (exact_moves (in_hex in_a_class value (suc (suc left))) depth k d h.0 new e x m)))

letter_moves : (in_a_class : Bool) (depth c : ℕ) (new : Kind) (e : ℕ) → (c == 120 || c == 117) ≡ false
    → EscapeMoves in_a_class depth c new e → Exactly (behind_escape in_a_class) depth new e
letter_moves in_a_class depth c new e apart (by_letter x at_k at_e) = (at_k, at_e)
letter_moves in_a_class depth c new e apart (by_x at_c at_k at_e) =
    absurd (false≢true (sym apart ∙ ap (λ (n : ℕ). n == 120 || n == 117) at_c))
letter_moves in_a_class depth c new e apart (by_u at_c at_k at_e) =
    absurd (false≢true (sym apart ∙ ap (λ (n : ℕ). n == 120 || n == 117) at_c))

x_moves : (in_a_class : Bool) (depth : ℕ) (new : Kind) (e : ℕ) → EscapeMoves in_a_class depth 120 new e
    → Exactly (in_hex in_a_class 0 2) depth new e
x_moves in_a_class depth new e (by_letter x at_k at_e) = absurd (false≢true (sym x))
x_moves in_a_class depth new e (by_x at_c at_k at_e) = (at_k, at_e)
x_moves in_a_class depth new e (by_u at_c at_k at_e) = absurd (omega (arith, at_c))

u_moves : (in_a_class : Bool) (depth : ℕ) (new : Kind) (e : ℕ) → EscapeMoves in_a_class depth 117 new e
    → Exactly (in_hex in_a_class 0 4) depth new e
u_moves in_a_class depth new e (by_letter x at_k at_e) = absurd (false≢true (sym x))
u_moves in_a_class depth new e (by_x at_c at_k at_e) = absurd (omega (arith, at_c))
u_moves in_a_class depth new e (by_u at_c at_k at_e) = (at_k, at_e)

-- to the end of an escape
escape_told : (in_a_class : Bool) (depth : ℕ) (text more rest : List ℕ) → AfterBackslash more rest
    → Told text more (Exactly (behind in_a_class) depth) → Told text rest (Exactly (behind_escape in_a_class) depth)
escape_told in_a_class depth text more rest (other_escape {c = c} apart) t =
    told_next text c rest (Exactly (behind in_a_class) depth) (Exactly (behind_escape in_a_class) depth) t
    (λ k d new e x m. letter_moves in_a_class depth c new e apart
    (exact_moves (behind in_a_class) depth k d c new e x m))
escape_told in_a_class depth text more rest (two_digit_escape {text = digits} {c = c} h) t =
    hex_told in_a_class 1 0 depth text digits rest c h
    (told_next text 120 digits (Exactly (behind in_a_class) depth) (Exactly (in_hex in_a_class 0 2) depth) t
    (λ k d new e x m. x_moves in_a_class depth new e (exact_moves (behind in_a_class) depth k d 120 new e x m)))
escape_told in_a_class depth text more rest (four_digit_escape {text = digits} {c = c} h) t =
    hex_told in_a_class 3 0 depth text digits rest c h
    (told_next text 117 digits (Exactly (behind in_a_class) depth) (Exactly (in_hex in_a_class 0 4) depth) t
    (λ k d new e x m. u_moves in_a_class depth new e (exact_moves (behind in_a_class) depth k d 117 new e x m)))

-- after `(`, after `(?` and a mark, and after `[`
paren_told : (depth : ℕ) (text rest : List ℕ) → Told text (40 ∷ rest) (λ k d. Agrees (groups depth) k d (40 ∷ rest))
    → Told text rest (Exactly in_paren depth)
paren_told depth text rest t = told_next text 40 rest (λ k d. Agrees (groups depth) k d (40 ∷ rest))
    (Exactly in_paren depth) t (λ k d new e x m. at_open new e depth (outside_moves k d 40 new e depth rest x m))

question_next : (depth : ℕ) (new : Kind) (e : ℕ) → ParenMoves depth 63 new e → Exactly in_question depth new e
question_next depth new e (by_question at_c at_k at_e) = (at_k, at_e)
question_next depth new e (by_content apart m) = absurd (apart refl)

marked_told : (depth c : ℕ) (text rest : List ℕ) → (c == 58 || c == 61 || c == 33) ≡ true
    → Told text (63 ∷ c ∷ rest) (Exactly in_paren depth) → Told text rest (Exactly outside (suc depth))
marked_told depth c text rest is t =
    told_next text c rest (Exactly in_question depth) (Exactly outside (suc depth))
    (told_next text 63 (c ∷ rest) (Exactly in_paren depth) (Exactly in_question depth) t
    (λ k d new e x m. question_next depth new e (exact_moves in_paren depth k d 63 new e x m)))
    (λ k d new e x m. let y = exact_moves in_question depth k d c new e x m in (y.1, y.2))

bracket_told : (depth : ℕ) (text rest : List ℕ) → Told text (91 ∷ rest) (λ k d. Agrees (groups depth) k d (91 ∷ rest))
    → Told text rest (Exactly class_front depth)
bracket_told depth text rest t = told_next text 91 rest (λ k d. Agrees (groups depth) k d (91 ∷ rest))
    (Exactly class_front depth) t (λ k d new e x m. at_bracket new e depth (outside_moves k d 91 new e depth rest x m))

caret_agrees : (depth : ℕ) (new : Kind) (e : ℕ) (w : List ℕ) → FrontMoves depth 94 new e
    → Agrees (class_in_groups depth) new e w
caret_agrees depth new e w (by_caret at_c at_k at_e) =
    agrees_as (class_in_groups depth) new inside e depth w at_k at_e refl
caret_agrees depth new e w (by_first apart m) = absurd (apart refl)

-- at each place
stands_told : (text : List ℕ) (place : Within) (rest : List ℕ) → Stands text place rest
    → Told text rest (λ k d. Agrees place k d rest)
stands_told text place rest at_front = (
  [],
  refl,
  λ r e. subst (λ (x : Reading). Agrees (groups 0) (kind x) (length x.groups) text) (same_Some start r e) refl,
)
stands_told text place rest (past_symbol {depth = depth} {c = c} h apart) =
    told_next text c rest (λ k d. Agrees (groups depth) k d (c ∷ rest)) (λ k d. Agrees (groups depth) k d rest)
    (stands_told text (groups depth) (c ∷ rest) h) (λ k d new e x m. symbol_agrees c new e depth rest apart
    (outside_moves k d c new e depth rest x m))
stands_told text place rest (past_escape {depth = depth} {more = more} h x) =
    told_as text rest (Exactly outside depth) (λ k d. Agrees (groups depth) k d rest)
    (escape_told false depth text more rest x
    (told_next text 92 more (λ k d. Agrees (groups depth) k d (92 ∷ more)) (Exactly (behind false) depth)
    (stands_told text (groups depth) (92 ∷ more) h) (λ k d new e y m. at_backslash new e depth
    (outside_moves k d 92 new e depth more y m))))
    (λ k d y. agrees_as (groups depth) k outside d depth rest y.0 y.1 refl)
stands_told text place rest (in_group {depth = depth} h apart) =
    told_as text rest (Exactly in_paren depth) (λ k d. Agrees (groups (suc depth)) k d rest)
    (paren_told depth text rest (stands_told text (groups depth) (40 ∷ rest) h))
    (λ k d y. agrees_as (groups (suc depth)) k in_paren d depth rest y.0 y.1 (refl, apart))
stands_told text place rest (in_marked_group {depth = depth} {c = c} h is) =
    told_as text rest (Exactly outside (suc depth)) (λ k d. Agrees (groups (suc depth)) k d rest)
    (marked_told depth c text rest is (paren_told depth text (63 ∷ c ∷ rest)
    (stands_told text (groups depth) (40 ∷ 63 ∷ c ∷ rest) h)))
    (λ k d y. agrees_as (groups (suc depth)) k outside d (suc depth) rest y.0 y.1 refl)
stands_told text place rest (past_group {depth = depth} h) =
    told_next text 41 rest (λ k d. Agrees (groups (suc depth)) k d (41 ∷ rest)) (λ k d. Agrees (groups depth) k d rest)
    (stands_told text (groups (suc depth)) (41 ∷ rest) h)
    (λ k d new e x m. let y = at_close new e depth (outside_moves k d 41 new e (suc depth) rest x m) in
    agrees_as (groups depth) new outside e depth rest y.0 y.1 refl)
stands_told text place rest (in_class {depth = depth} h apart) =
    told_as text rest (Exactly class_front depth) (λ k d. Agrees (class_in_groups depth) k d rest)
    (bracket_told depth text rest (stands_told text (groups depth) (91 ∷ rest) h))
    (λ k d y. agrees_as (class_in_groups depth) k class_front d depth rest y.0 y.1 refl)
stands_told text place rest (in_negated_class {depth = depth} h) =
    told_next text 94 rest (Exactly class_front depth) (λ k d. Agrees (class_in_groups depth) k d rest)
    (bracket_told depth text (94 ∷ rest) (stands_told text (groups depth) (91 ∷ 94 ∷ rest) h))
    (λ k d new e x m. caret_agrees depth new e rest (exact_moves class_front depth k d 94 new e x m))
stands_told text place rest (past_class_char {depth = depth} {c = c} h apart) =
    told_next text c rest (λ k d. Agrees (class_in_groups depth) k d (c ∷ rest))
    (λ k d. Agrees (class_in_groups depth) k d rest) (stands_told text (class_in_groups depth) (c ∷ rest) h)
    (λ k d new e x m. member_agrees c new e depth rest apart (inside_moves k d c new e depth rest x m))
stands_told text place rest (past_class_escape {depth = depth} {more = more} h x) =
    told_as text rest (Exactly inside depth) (λ k d. Agrees (class_in_groups depth) k d rest)
    (escape_told true depth text more rest x
    (told_next text 92 more (λ k d. Agrees (class_in_groups depth) k d (92 ∷ more)) (Exactly (behind true) depth)
    (stands_told text (class_in_groups depth) (92 ∷ more) h)
    (λ k d new e y m. at_class_backslash new e depth (inside_moves k d 92 new e depth more y m))))
    (λ k d y. agrees_as (class_in_groups depth) k inside d depth rest y.0 y.1 refl)
stands_told text place rest (past_class {depth = depth} h) =
    told_next text 93 rest (λ k d. Agrees (class_in_groups depth) k d (93 ∷ rest))
    (λ k d. Agrees (groups depth) k d rest) (stands_told text (class_in_groups depth) (93 ∷ rest) h)
    (λ k d new e x m. let y = at_end_bracket new e depth (inside_moves k d 93 new e depth rest x m) in
    agrees_as (groups depth) new outside e depth rest y.0 y.1 refl)

-- the machine, where it comes up to a place, is at such a kind of place
agrees_at : (text : List ℕ) (q : ℕ) (place : Within) (r : Reading) → q ≤ length text → Stands text place (drop q text)
    → reads (take q text) start ≡ Some r → Agrees place (kind r) (length r.groups) (drop q text)
agrees_at text q place r le h e = by_front (stands_told text place (drop q text) h)
  where
    by_front : Told text (drop q text) (λ k d. Agrees place k d (drop q text))
        → Agrees place (kind r) (length r.groups) (drop q text)
    by_front (front, split, then_) = then_ r (subst (λ (xs : List ℕ). reads xs start ≡ Some r) same e)
      where
        same : take q text ≡ front
        same =
            let whole : length text ≡ length front + length (drop q text) =
            ap length split ∙ length-append front (drop q text) in
            let part : length (drop q text) ≡ length text - q = length-drop q text in
            ap (take q) split ∙ take_at front (drop q text) q (omega (arith, whole, part, le))

-- the kinds of places outside classes, and in classes, refuse forms that aren't supported
unsupported_outside : (k : Kind) (d depth : ℕ) (rest : List ℕ) → Agrees (groups depth) k d rest
    → (begins_unsupported_escape rest || begins_named_group rest) ≡ true → may_escape_at k
    && begins_unsupported_escape rest || may_open_at k && begins_named_group rest ≡ true
unsupported_outside outside d depth rest h form = form
unsupported_outside (in_bounds bs) d depth rest h form = form
unsupported_outside in_paren d depth rest h form = form
unsupported_outside in_question d depth rest h form = absurd h
unsupported_outside (behind in_a_class) d depth rest h form = absurd h
unsupported_outside (in_hex in_a_class value left) d depth rest h form = absurd h
unsupported_outside class_front d depth rest h form = absurd h
unsupported_outside inside d depth rest h form = absurd h

unsupported_inside : (k : Kind) (d depth : ℕ) (rest : List ℕ) → Agrees (class_in_groups depth) k d rest
    → begins_unsupported_escape rest ≡ true → may_escape_at k && begins_unsupported_escape rest || may_open_at k
    && begins_named_group rest ≡ true
unsupported_inside outside d depth rest h form = absurd h
unsupported_inside (in_bounds bs) d depth rest h form = absurd h
unsupported_inside in_paren d depth rest h form = absurd h
unsupported_inside in_question d depth rest h form = absurd h
unsupported_inside (behind in_a_class) d depth rest h form = absurd h
unsupported_inside (in_hex in_a_class value left) d depth rest h form = absurd h
unsupported_inside class_front d depth rest h form = rw form refl
unsupported_inside inside d depth rest h form = rw form refl

-- where a form that isn't supported stands, the machine refuses it
pub unsupported_reads : (text : List ℕ) (q : ℕ) (r : Reading) → q ≤ length text → IsUnsupportedAt text q
    → reads (take q text) start ≡ Some r → is_unsupported r.mode (drop q text) ≡ true
unsupported_reads text q r le h e = by_place h
  where
    rest : List ℕ
    rest = drop q text

    by_kind : may_escape_at (kind r) && begins_unsupported_escape rest || may_open_at (kind r)
        && begins_named_group rest ≡ true → is_unsupported r.mode rest ≡ true
    by_kind x =
        let same = modes_agree r.mode r.braces in
        subst (λ (b : Bool). b && begins_unsupported_escape rest || may_open r.mode && begins_named_group rest ≡ true)
        (sym same.1)
        (subst (λ (b : Bool). may_escape_at (kind r) && begins_unsupported_escape rest || b
        && begins_named_group rest ≡ true) (sym same.0) x)

    by_place : IsUnsupportedAt text q → is_unsupported r.mode rest ≡ true
    by_place (inl (depth, place, form)) = by_kind (unsupported_outside (kind r) (length r.groups) depth rest
        (agrees_at text q (groups depth) r le place e) form)
    by_place (inr (depth, place, form)) = by_kind (unsupported_inside (kind r) (length r.groups) depth rest
        (agrees_at text q (class_in_groups depth) r le place e) form)

-- the kinds of places outside classes refuse groups too deep
deep_outside : (k : Kind) (d depth : ℕ) (rest : List ℕ) → Agrees (groups depth) k d rest → 200 ≤ depth
    → begins_group rest ≡ true → may_open_at k && begins_group rest && nat_le 200 (d + pending_at k) ≡ true
deep_outside outside d depth rest h deep form = rw form (le-leb 200 (d + 0) (omega (arith, h, deep)))
deep_outside (in_bounds bs) d depth rest h deep form = rw form (le-leb 200 (d + 0) (omega (arith, h, deep)))
deep_outside in_paren d depth rest h deep form = rw form (le-leb 200 (d + 1) (omega (arith, h.0, deep)))
deep_outside in_question d depth rest h deep form = absurd h
deep_outside (behind in_a_class) d depth rest h deep form = absurd h
deep_outside (in_hex in_a_class value left) d depth rest h deep form = absurd h
deep_outside class_front d depth rest h deep form = absurd h
deep_outside inside d depth rest h deep form = absurd h

-- where a group too deep stands, the machine refuses it
pub deep_reads : (text : List ℕ) (q : ℕ) (r : Reading) → q ≤ length text → IsTooDeepAt text q
    → reads (take q text) start ≡ Some r → is_too_deep (length r.groups) r.mode (drop q text) ≡ true
deep_reads text q r le (depth, place, deep, form) e =
    let same = modes_agree r.mode r.braces in
    let rest = drop q text in
    subst (λ (b : Bool). b && begins_group rest && nat_le 200 (length r.groups + pending r.mode) ≡ true) (sym same.0)
    (subst (λ (p : ℕ). may_open_at (kind r) && begins_group rest && nat_le 200 (length r.groups + p) ≡ true)
    (sym same.2) (deep_outside (kind r) (length r.groups) depth rest (agrees_at text q (groups depth) r le place e)
    deep form))

-- something is left of the text only before its end
left_within : (text : List ℕ) (q : ℕ) → 0 < length (drop q text) → q < length text
left_within text q some_left = omega (arith, some_left, length-drop q text)

-- what passes a test that the empty text fails has a character
test_left : (p : List ℕ → Bool) (rest : List ℕ) → p [] ≡ false → p rest ≡ true → 0 < length rest
test_left p [] n h = absurd (false≢true (sym n ∙ h))
test_left p (c ∷ rest) n h = omega arith

-- a form begins with a character
pub forms_within : (text : List ℕ) (q : ℕ) → IsUnsupportedAt text q → q < length text
forms_within text q (inl (depth, place, form)) =
    left_within text q (test_left (λ (xs : List ℕ). begins_unsupported_escape xs || begins_named_group xs) (drop q text)
    refl form)
forms_within text q (inr (depth, place, form)) =
    left_within text q (test_left begins_unsupported_escape (drop q text) refl form)

-- a group too deep begins with a character, and so does a quantifier in braces
pub deep_within : (text : List ℕ) (q : ℕ) → IsTooDeepAt text q → q < length text
deep_within text q (depth, place, deep, form) = left_within text q (test_left begins_group (drop q text) refl form)

pub quantifier_within : (text : List ℕ) (q : ℕ) (bounds : List ℕ) (least : ℕ) (most : Option ℕ)
    → IsQuantifierAt text q bounds least most → q < length text
quantifier_within text q bounds least most h =
    let here : length (drop q text) ≡ length (123 ∷ (bounds ++ 125 ∷ h.rest)) = ap length h.braces in
    left_within text q (omega (arith, here))

-- `{` begins braces wherever a group may begin
brace_step : (m : Mode) (r : Reading) → r.mode ≡ m → may_open m ≡ true → (s : Reading) × (after_atom : Bool)
    × (step_in m 123 r ≡ Some s) × (s.mode ≡ Braces after_atom) × (s.braces ≡ [])
brace_step Term r at_m h = (at (Braces false) (record r { braces = [] }), false, refl, refl, refl)
brace_step Atom r at_m h = (at (Braces true) (record r { braces = [] }), true, refl, refl, refl)
brace_step Quantified r at_m h = (at (Braces false) (record r { braces = [] }), false, refl, refl, refl)
brace_step Zero r at_m h = (at (Braces true) (record r { braces = [] }), true, refl, refl, refl)
brace_step (Braces after_atom) r at_m h =
    (at (Braces true) (record (flushed after_atom r) { braces = [] }), true, refl, refl, refl)
brace_step Escape r at_m h = absurd (false≢true h)
brace_step (modes.Hex value left) r at_m h = absurd (false≢true h)
brace_step Paren r at_m h = (at (Braces false) (record (opened Group r) { braces = [] }), false, refl, refl, refl)
brace_step ParenQuestion r at_m h = absurd (false≢true h)
brace_step ClassOpen r at_m h = absurd (false≢true h)
brace_step ClassFirst r at_m h = absurd (false≢true h)
brace_step ClassNext r at_m h = absurd (false≢true h)
brace_step ClassNextDash r at_m h = absurd (false≢true h)
brace_step ClassNextDashes r at_m h = absurd (false≢true h)
brace_step (modes.ClassChar first) r at_m h = absurd (false≢true h)
brace_step (modes.ClassDash first) r at_m h = absurd (false≢true h)
brace_step (modes.ClassZero is_last) r at_m h = absurd (false≢true h)
brace_step (modes.ClassEscape first) r at_m h = absurd (false≢true h)
brace_step (modes.ClassHex first value left) r at_m h = absurd (false≢true h)

-- a character more in braces
pub inner_step : (after_atom : Bool) (c : ℕ) (s : Reading) → s.mode ≡ Braces after_atom → is_inner s.braces c ≡ true
    → step c s ≡ Some (record s { braces = s.braces ++ c ∷ [] })
inner_step after_atom c s m inner =
    ap (λ (j : Mode). step_in j c s) m
    ∙ ap (λ (b : Bool). cond b (Some (record s { braces = s.braces ++ c ∷ [] }))
    (cond (c == 125) (in_braces_end (bounds_of s.braces) after_atom c s)
    (plain true false c (flushed after_atom s)))) inner

-- the bounds' characters are read as such
inner_reads : (whole done more tail : List ℕ) (least : ℕ) (most : Option ℕ) (after_atom : Bool) (s : Reading)
    → Bounds whole least most → whole ≡ done ++ (more ++ tail) → s.mode ≡ Braces after_atom → s.braces ≡ done
    → (t : Reading) × (reads more s ≡ Some t) × (t.mode ≡ Braces after_atom) × (t.braces ≡ done ++ more)
inner_reads whole done [] tail least most after_atom s b e m here = (s, refl, m, here ∙ sym (append-nil done))
inner_reads whole done (c ∷ more) tail least most after_atom s b e m here =
    let inner : is_inner s.braces c ≡ true =
    subst (λ (bs : List ℕ). is_inner bs c ≡ true) (sym here) (goes_on whole done c (more ++ tail) least most b e) in
    let i = inner_reads whole (done ++ c ∷ []) more tail least most after_atom
    (record s { braces = s.braces ++ c ∷ [] }) b (e ∙ sym (append_assoc done (c ∷ []) (more ++ tail))) m
    (ap (λ (bs : List ℕ). bs ++ c ∷ []) here) in (
      i.0,
      ap (option_and_then (reads more)) (inner_step after_atom c s m inner) ∙ i.1,
      i.2,
      i.3
          ∙ append_assoc done (c ∷ []) more,
    )

-- where a group may begin
open_outside : (k : Kind) (d depth : ℕ) (rest : List ℕ) → Agrees (groups depth) k d rest → may_open_at k ≡ true
open_outside outside d depth rest h = refl
open_outside (in_bounds bs) d depth rest h = refl
open_outside in_paren d depth rest h = refl
open_outside in_question d depth rest h = absurd h
open_outside (behind in_a_class) d depth rest h = absurd h
open_outside (in_hex in_a_class value left) d depth rest h = absurd h
open_outside class_front d depth rest h = absurd h
open_outside inside d depth rest h = absurd h

-- where a quantifier in braces stands, the machine reads its braces as such
pub quantifier_reads : (text : List ℕ) (q : ℕ) (bounds : List ℕ) (least : ℕ) (most : Option ℕ) (r : Reading)
    → IsQuantifierAt text q bounds least most → reads (take q text) start ≡ Some r → (k : ℕ) → k ≤ length bounds
    → (s : Reading) × (after_atom : Bool) × (reads (take (q + (k + 1)) text) start ≡ Some s)
    × (s.mode ≡ Braces after_atom) × (s.braces ≡ take k bounds)
quantifier_reads text q bounds least most r h e k le = (i.0, b.1, all_read, i.2, i.3)
  where
    lt : q < length text
    lt = quantifier_within text q bounds least most h

    b : (s : Reading) × (after_atom : Bool) × (step 123 r ≡ Some s) × (s.mode ≡ Braces after_atom) × (s.braces ≡ [])
    b = brace_step r.mode r refl ((modes_agree r.mode r.braces).0
        ∙ open_outside (kind r) (length r.groups) h.depth (drop q text)
        (agrees_at text q (groups h.depth) r (omega (arith, lt)) h.place e))

    i : (t : Reading) × (reads (take k bounds) b.0 ≡ Some t) × (t.mode ≡ Braces b.1) × (t.braces ≡ take k bounds)
    i = inner_reads bounds [] (take k bounds) (drop k bounds) least most b.1 b.0 h.are_bounds
        (sym (take-append-drop k bounds)) b.3 b.4

    split : text ≡ (take q text ++ 123 ∷ take k bounds) ++ (drop k bounds ++ 125 ∷ h.rest)
    split =
        sym (take-append-drop q text) ∙ ap (λ (xs : List ℕ). take q text ++ xs)
        (h.braces ∙ ap (λ (bs : List ℕ). 123 ∷ (bs ++ 125 ∷ h.rest)) (sym (take-append-drop k bounds))
        ∙ ap (λ (xs : List ℕ). 123 ∷ xs) (append_assoc (take k bounds) (drop k bounds) (125 ∷ h.rest)))
        ∙ sym (append_assoc (take q text) (123 ∷ take k bounds) (drop k bounds ++ 125 ∷ h.rest))

    taken : take (q + (k + 1)) text ≡ take q text ++ 123 ∷ take k bounds
    taken =
        let one : length (take q text) ≡ q = length-take-le q text (omega (arith, lt)) in
        let two : length (take k bounds) ≡ k = length-take-le k bounds le in
        ap (take (q + (k + 1))) split ∙ take_at (take q text ++ 123 ∷ take k bounds) (drop k bounds ++ 125 ∷ h.rest)
        (q + (k + 1)) (omega (arith, length-append (take q text) (123 ∷ take k bounds), one, two))

    all_read : reads (take (q + (k + 1)) text) start ≡ Some i.0
    all_read =
        ap (λ (xs : List ℕ). reads xs start) taken ∙ reads-append (take q text) (123 ∷ take k bounds) start
        ∙ ap (option_and_then (reads (123 ∷ take k bounds))) e
        ∙ ap (option_and_then (reads (take k bounds))) b.2 ∙ i.1
