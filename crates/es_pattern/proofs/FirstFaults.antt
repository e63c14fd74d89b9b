-- What the machine stops at is the first fault of the text, and where it stops at none there is none.
use Rattle.std.proofs.Common.{
  ◌≡◌,
  ℕ,
  suc,
  ◌+◌,
  ◌-◌,
  ◌*◌,
  ◌<◌,
  ◌≤◌,
  Bool,
  true,
  false,
  List,
  [],
  ◌∷◌,
  ◌++◌,
  inl,
  inr,
  length,
  get_or,
  take,
  drop,
  Option,
  Some,
  None,
  refl,
  sym,
  ap,
  subst,
  ◌∙◌,
  arith,
}
use Rattle.std.specs.Prelude.{◌==◌, ◌&&◌, ◌||◌, ◌⊎◌, nat_lt, option_and_then}
use Rattle.std.proofs.Math.Seq.{get_or-append_seam}
use Rattle.std.proofs.lemmas.List.{
  get_or-drop,
  get_or_append_left,
  length-append,
  length-drop,
  take_all,
  take-append-drop,
  drop_more,
}
use Rattle.std.proofs.lemmas.Option.{same_Some}
use Rattle.std.proofs.lemmas.Bool.{cases_lt, false≢true, eqb-true, and_parts, or_cases, or_left, ltb-true}
use Rattle.std.proofs.lemmas.Bool.Decides.{nat_tests}
use Rattle.es_pattern.specs.Tree.{Tree}
use Rattle.es_pattern.specs.Pieces.{top, below}
use Rattle.es_pattern.specs.Escapes.{is_ascii_digit}
use Rattle.es_pattern.specs.Grammar.{IsPattern}
use Rattle.es_pattern.specs.Limits.{is_above_limit, count_of, product_of}
use Rattle.es_pattern.specs.Forms.{begins_unsupported_escape, begins_named_group, begins_group}
use Rattle.es_pattern.specs.Refusals.{may_escape, may_open, is_unsupported, is_too_deep}
use Rattle.es_pattern.specs.declared.error.PatternError.TheVariants.{Syntax, Unsupported, CountTooLarge}
use Rattle.es_pattern.specs.declared.mode.Mode.{Mode}
use Rattle.es_pattern.specs.declared.mode.Mode.TheVariants.{Braces}
use Rattle.es_pattern.specs.Reading.{
  Reading,
  step,
  step_in,
  in_braces,
  in_braces_end,
  quantified,
  charged,
  bounds_of,
  is_inner,
  overcounts,
  overcounts_in,
  overcounts_at,
  reads,
  start,
  finished,
}
use Rattle.es_pattern.specs.Parsing.{PassesBefore}
use Rattle.es_pattern.specs.Faults.{
  BeginsPattern,
  IsUnsupportedAt,
  IsQuantifierAt,
  IsTooLargeAt,
  IsSyntaxAt,
  IsClearBefore,
  IsFirstFault,
  IsClear,
  byte_place,
}
use Rattle.es_pattern.proofs.Parsings.{reads_more, reads_part, reads_step, passes_less}
use Rattle.es_pattern.proofs.BracesRead.{bounds_complete, goes_on}
use Rattle.es_pattern.proofs.Sound.{Completes, InTerm, inner_is, accepted_is_pattern}
use Rattle.es_pattern.proofs.Sane.{MeasuredBase, after_atom_in}
use Rattle.es_pattern.proofs.Viable.{viable}
use Rattle.es_pattern.proofs.Above.{term_above}
use Rattle.es_pattern.proofs.Beginnings.{
  completes_before,
  completes_pattern,
  pattern_reads,
  begins_reads,
  reads_begins,
  syntax_stops,
  syntax_ends,
  no_syntax_before,
}
use Rattle.es_pattern.proofs.Kept.{sane_reads, measured_reads}
use Rattle.es_pattern.proofs.Placing.{unsupported_placed, deep_placed, quantifier_placed}
use Rattle.es_pattern.proofs.Placed.{
  unsupported_reads,
  deep_reads,
  quantifier_reads,
  forms_within,
  deep_within,
  quantifier_within,
  inner_step,
}
use Rattle.es_pattern.proofs.NumberTests.{lt_or_same, no_some}

-- the heads of the forms that are refused
head_of : (text rest : List ℕ) (n c : ℕ) → drop n text ≡ c ∷ rest → get_or text n 0 ≡ c
head_of text rest n c e = let at : get_or (drop n text) 0 0 ≡ get_or text (n + 0) 0 = get_or-drop n text 0 0 in
    let same : n + 0 ≡ n = omega arith in ap (λ (k : ℕ). get_or text k 0) (sym same) ∙ sym at
    ∙ ap (λ (xs : List ℕ). get_or xs 0 0) e

abbrev HeadIs : List ℕ → ℕ → Type 0
HeadIs text c = (rest : List ℕ) × (text ≡ c ∷ rest)

escape_head : (text : List ℕ) → begins_unsupported_escape text ≡ true → HeadIs text 92
escape_head [] e = absurd (false≢true e)
escape_head (a ∷ []) e = absurd (false≢true e)
escape_head (a ∷ b ∷ rest) e = (b ∷ rest, ap (λ (c : ℕ). c ∷ b ∷ rest) (eqb-true a 92 (and_parts (a == 92) _ e).0))

named_head : (text : List ℕ) → begins_named_group text ≡ true → HeadIs text 40
named_head [] e = absurd (false≢true e)
named_head (a ∷ rest) e = (rest, ap (λ (d : ℕ). d ∷ rest) (sym (eqb-true 40 a (and_parts (40 == a) _ e).0)))

group_head : (text : List ℕ) → begins_group text ≡ true → HeadIs text 40
group_head [] e = absurd (false≢true e)
group_head (a ∷ rest) e = (rest, ap (λ (d : ℕ). d ∷ rest) (sym (eqb-true 40 a (and_parts (40 == a) _ e).0)))

unsupported_head : (m : Mode) (text : List ℕ) → is_unsupported m text ≡ true → HeadIs text 92 ⊎ HeadIs text 40
unsupported_head m text e =
    by_form (or_cases (may_escape m && begins_unsupported_escape text) (may_open m && begins_named_group text) e)
  where
    by_form : (may_escape m && begins_unsupported_escape text ≡ true) ⊎ (may_open m && begins_named_group text ≡ true)
        → HeadIs text 92 ⊎ HeadIs text 40
    by_form (inl h) = inl (escape_head text (and_parts (may_escape m) (begins_unsupported_escape text) h).1)
    by_form (inr h) = inr (named_head text (and_parts (may_open m) (begins_named_group text) h).1)

deep_head : (depth : ℕ) (m : Mode) (text : List ℕ) → is_too_deep depth m text ≡ true → HeadIs text 40
deep_head depth m text e =
    group_head text (and_parts (may_open m) (begins_group text) (and_parts (may_open m && begins_group text) _ e).0).1

-- a character of a quantifier's bounds
inner_apart : (bs : List ℕ) (c k : ℕ) → is_inner bs c ≡ true → c ≡ k → (k ≡ 92) ⊎ ((k ≡ 40) ⊎ (k ≡ 125)) → ⊥
inner_apart bs c k h e which = by_inner (inner_is bs c h) which
  where
    by_digit : is_ascii_digit c ≡ true → (k ≡ 92) ⊎ ((k ≡ 40) ⊎ (k ≡ 125)) → ⊥
    by_digit d (inl a) = let at : c ≡ 92 = e ∙ a in grind (arith, nat_tests)
    by_digit d (inr (inl a)) = let at : c ≡ 40 = e ∙ a in grind (arith, nat_tests)
    by_digit d (inr (inr a)) = let at : c ≡ 125 = e ∙ a in grind (arith, nat_tests)

    by_inner : (is_ascii_digit c ≡ true) ⊎ (c ≡ 44) → (k ≡ 92) ⊎ ((k ≡ 40) ⊎ (k ≡ 125)) → ⊥
    by_inner (inl d) w = by_digit d w
    by_inner (inr d) (inl a) = absurd (omega (arith, d, e, a))
    by_inner (inr d) (inr (inl a)) = absurd (omega (arith, d, e, a))
    by_inner (inr d) (inr (inr a)) = absurd (omega (arith, d, e, a))

module _ (text : List ℕ) (q : ℕ) (bounds : List ℕ) (least : ℕ) (most : Option ℕ)
    (h : IsQuantifierAt text q bounds least most) where
  abbrev end : ℕ
  end = q + (length bounds + 1)

  in_text : (i : ℕ) → get_or text (q + (i + 1)) 0 ≡ get_or (bounds ++ 125 ∷ h.rest) i 0
  in_text i = sym (get_or-drop q text (i + 1) 0) ∙ ap (λ (xs : List ℕ). get_or xs (i + 1) 0) h.braces
      ∙ (let same : i + 1 ≡ suc i = omega arith in ap (λ (k : ℕ). get_or (123 ∷ (bounds ++ 125 ∷ h.rest)) k 0) same)

  end_within : end < length text
  end_within = omega (arith, length-drop q text, ap length h.braces, length-append bounds (125 ∷ h.rest))

  end_char : get_or text end 0 ≡ 125
  end_char = in_text (length bounds) ∙ get_or-append_seam bounds 125 h.rest 0

  bound_char : (i : ℕ) → i < length bounds → get_or text (q + (i + 1)) 0 ≡ get_or bounds i 0
  bound_char i lt = in_text i ∙ get_or_append_left bounds (125 ∷ h.rest) 0 i lt

  bound_inner : (i : ℕ) → i < length bounds → is_inner (take i bounds) (get_or bounds i 0) ≡ true
  bound_inner i lt = goes_on bounds (take i bounds) (get_or bounds i 0) (drop (i + 1) bounds) least most h.are_bounds
      (sym (take-append-drop i bounds) ∙ ap (λ (xs : List ℕ). take i bounds ++ xs) (drop_more bounds i 0 lt))

  -- what stands at a place between the quantifier's braces: one more character of the bounds, or the end
  abbrev InnerOrEnd : ℕ → Reading → Type 0
  InnerOrEnd n r =
      (is_inner r.braces (get_or text n 0) ≡ true) ⊎ ((n ≡ end) × (get_or text n 0 ≡ 125) × (r.braces ≡ bounds))

  abbrev Interior : ℕ → Reading → Type 0
  Interior n r = (after_atom : Bool) × (r.mode ≡ Braces after_atom) × InnerOrEnd n r

  interior_at : (i : ℕ) (r : Reading) → i ≤ length bounds → reads (take (q + (i + 1)) text) start ≡ Some r
      → Interior (q + (i + 1)) r
  interior_at i r le e =
      let before = reads_part text q (q + (i + 1)) r (omega arith) e in
      let s = quantifier_reads text q bounds least most before.0 h before.1 i le in
      let same : s.0 ≡ r = same_Some s.0 r (sym s.2 ∙ e) in
      let mode : r.mode ≡ Braces s.1 = subst (λ (y : Reading). y.mode ≡ Braces s.1) same s.3 in
      let braces : r.braces ≡ take i bounds = subst (λ (y : Reading). y.braces ≡ take i bounds) same s.4 in
      (s.1, mode, by_place braces (lt_or_same i (length bounds) le))
    where
      by_place : r.braces ≡ take i bounds → (i < length bounds) ⊎ (i ≡ length bounds) → InnerOrEnd (q + (i + 1)) r
      by_place b (inl lt) = inl (subst (λ (xs : List ℕ). is_inner xs (get_or text (q + (i + 1)) 0) ≡ true) (sym b)
          (subst (λ (c : ℕ). is_inner (take i bounds) c ≡ true) (sym (bound_char i lt)) (bound_inner i lt)))
      by_place b (inr same) =
          let at_end : q + (i + 1) ≡ end = omega (arith, same) in
          inr (at_end, ap (λ (k : ℕ). get_or text k 0) at_end ∙ end_char, b ∙ take_all i bounds (omega (arith, same)))

  pub interior : (n : ℕ) (r : Reading) → q < n → n ≤ end → reads (take n text) start ≡ Some r → Interior n r
  interior n r lt le e =
      let same : q + ((n - (q + 1)) + 1) ≡ n = omega (arith, lt) in
      subst (λ (k : ℕ). Interior k r) same (interior_at (n - (q + 1)) r (omega (arith, lt, le))
      (ap (λ (k : ℕ). reads (take k text) start) same ∙ e))

-- a quantifier that is too large by itself, or makes a product too large
abbrev IsLarge : List ℕ → ℕ → List ℕ → ℕ → Option ℕ → Type 0
IsLarge text q bounds least most = (is_above_limit least most ≡ true)
    ⊎ (BeginsPattern (take (q + (length bounds + 2)) text)
    × ((rest : List ℕ) (tree : Tree) → IsPattern (take (q + (length bounds + 2)) text ++ rest) tree
    → 100000 < product_of tree))

abbrev IsLargeAt : List ℕ → ℕ → List ℕ → ℕ → Option ℕ → Type 0
IsLargeAt text q bounds least most = IsQuantifierAt text q bounds least most × IsLarge text q bounds least most

overcounts_above : (r : Reading) (after_atom : Bool) (c least : ℕ) (most : Option ℕ) → r.mode ≡ Braces after_atom
    → c ≡ 125 → bounds_of r.braces ≡ Some (least, most) → is_above_limit least most ≡ true → overcounts_at c r ≡ true
overcounts_above r after_atom c least most m e b h =
    ap (λ (k : Mode). overcounts_in k c r) m ∙ ap (λ (k : ℕ). (k == 125)
    && overcounts (bounds_of r.braces) after_atom r) e
    ∙ ap (λ (o : Option (ℕ × Option ℕ)). overcounts o after_atom r) b
    ∙ or_left (is_above_limit least most) (after_atom && nat_lt 100000 (r.atom_product * count_of least most)) h

-- a quantifier whose end was passed is within the limits
module _ (text : List ℕ) (n : ℕ) (r : Reading) (within : n ≤ length text) (so_far : reads (take n text) start ≡ Some r)
    (passes : PassesBefore text n) where
  ended_above : (q : ℕ) (bounds : List ℕ) (least : ℕ) (most : Option ℕ) → q + (length bounds + 1) < n
      → IsQuantifierAt text q bounds least most → is_above_limit least most ≡ true → ⊥
  ended_above q bounds least most lt h above =
      let e : ℕ = q + (length bounds + 1) in
      let s = reads_part text e n r (omega (arith, lt)) so_far in
      let i = interior text q bounds least most h e s.0 (omega arith) (omega arith) s.1 in
      by_place s.0 s.1 i.0 i.1 i.2
    where
      by_place : (s : Reading) → reads (take (q + (length bounds + 1)) text) start ≡ Some s → (after_atom : Bool)
          → s.mode ≡ Braces after_atom
          → InnerOrEnd text q bounds least most h (q + (length bounds + 1)) s → ⊥
      by_place s is after_atom m (inl inner) =
          inner_apart s.braces (get_or text (q + (length bounds + 1)) 0) 125 inner (end_char text q bounds least most h)
          (inr (inr refl))
      by_place s is after_atom m (inr (same, c, b)) =
          let all : bounds_of s.braces ≡ Some (least, most) =
          ap bounds_of b ∙ bounds_complete bounds least most h.are_bounds in
          false≢true (sym ((passes.each (q + (length bounds + 1)) lt s is).2)
          ∙ overcounts_above s after_atom (get_or text (q + (length bounds + 1)) 0) least most m c all above)

  ended_product : (p : ℕ) → p ≤ n → BeginsPattern (take p text)
      → ((rest : List ℕ) (tree : Tree) → IsPattern (take p text ++ rest) tree → 100000 < product_of tree) → ⊥
  ended_product p le begins large =
      let s = begins_reads (take p text) begins in
      let v = viable s.0 (sane_reads (take p text) s.0 s.1) in
      let small = v.3 (measured_reads text p s.0 (omega (arith, le, within)) (passes_less text n p passes le) s.1) in
      let over = large v.0 v.1 (completes_pattern (take p text ++ v.0) v.1
      (completes_before (take p text) start s.0 v.0 v.1 s.1 v.2)) in
      omega (arith, small, over)

  ended_small : (q : ℕ) (bounds : List ℕ) (least : ℕ) (most : Option ℕ) → q + (length bounds + 1) < n
      → IsLargeAt text q bounds least most → ⊥
  ended_small q bounds least most lt (h, inl above) = ended_above q bounds least most lt h above
  ended_small q bounds least most lt (h, inr (begins, large)) =
      ended_product (q + (length bounds + 2)) (omega (arith, lt)) begins large

  -- so nothing is refused before a place, if nothing is by a quantifier that isn't over
  pub clear_before : (p : ℕ) → p ≤ n → ((q : ℕ) (bounds : List ℕ) (least : ℕ) (most : Option ℕ) → q < p
      → n ≤ q + (length bounds + 1) → IsLargeAt text q bounds least most → ⊥) → IsClearBefore text p
  clear_before p le spans = record {
    supported = λ q lt u. let s = reads_part text q n r (omega (arith, lt, le)) so_far in
        false≢true (sym ((passes.each q (omega (arith, lt, le)) s.0 s.1).0)
        ∙ unsupported_reads text q s.0 (omega (arith, lt, le, within)) u s.1);
    small = λ q lt large. by_kind q lt large;
    grammatical = λ q lt h. no_syntax_before text n r within so_far q (omega (arith, lt, le)) h;
  }
    where
      by_end : (q : ℕ) (bounds : List ℕ) (least : ℕ) (most : Option ℕ) → q < p → IsLargeAt text q bounds least most
          → (q + (length bounds + 1) < n) ⊎ (n ≤ q + (length bounds + 1)) → ⊥
      by_end q bounds least most lt large (inl over) = ended_small q bounds least most over large
      by_end q bounds least most lt large (inr not_over) = spans q bounds least most lt not_over large

      by_kind : (q : ℕ) → q < p → IsTooLargeAt text q → ⊥
      by_kind q lt (inl deep) = let s = reads_part text q n r (omega (arith, lt, le)) so_far in
          false≢true (sym ((passes.each q (omega (arith, lt, le)) s.0 s.1).1)
          ∙ deep_reads text q s.0 (omega (arith, lt, le, within)) deep s.1)
      by_kind q lt (inr (inl (bounds, least, most, h, above))) =
          by_end q bounds least most lt (h, inl above) (cases_lt (q + (length bounds + 1)) n)
      by_kind q lt (inr (inr (bounds, least, most, h, begins, large))) =
          by_end q bounds least most lt (h, inr (begins, large)) (cases_lt (q + (length bounds + 1)) n)

-- a quantifier that spans a place where the machine stops
no_span : (text : List ℕ) (n c : ℕ) (r : Reading) → reads (take n text) start ≡ Some r → HeadIs (drop n text) c
    → (c ≡ 92) ⊎ ((c ≡ 40) ⊎ (c ≡ 125)) → (c ≡ 125 → ⊥)
    → (q : ℕ) (bounds : List ℕ) (least : ℕ) (most : Option ℕ) → q < n → n ≤ q + (length bounds + 1)
    → IsLargeAt text q bounds least most → ⊥
no_span text n c r e head which apart q bounds least most lt le large =
    by_interior (interior text q bounds least most large.0 n r lt le e).2
  where
    at : get_or text n 0 ≡ c
    at = head_of text head.0 n c head.1

    by_interior : InnerOrEnd text q bounds least most large.0 n r → ⊥
    by_interior (inl inner) = inner_apart r.braces (get_or text n 0) c inner at which
    by_interior (inr (same, at_end, b)) = apart (sym at ∙ at_end)

no_span_by : (text : List ℕ) (n : ℕ) (r : Reading) → reads (take n text) start ≡ Some r → HeadIs (drop n text) 92
    ⊎ HeadIs (drop n text) 40
    → (q : ℕ) (bounds : List ℕ) (least : ℕ) (most : Option ℕ) → q < n → n ≤ q + (length bounds + 1)
    → IsLargeAt text q bounds least most → ⊥
no_span_by text n r e (inl head) = no_span text n 92 r e head (inl refl) (λ x. absurd (omega (arith, x)))
no_span_by text n r e (inr head) = no_span text n 40 r e head (inr (inl refl)) (λ x. absurd (omega (arith, x)))

-- what the machine knows at a place
pub record Comes (text : List ℕ) (n : ℕ) (r : Reading) : Type 0 where
  pub within : n ≤ length text
  pub so_far : reads (take n text) start ≡ Some r
  pub passes : PassesBefore text n

pub unsupported_first : (text : List ℕ) (n : ℕ) (r : Reading) → Comes text n r
    → is_unsupported r.mode (drop n text) ≡ true → IsFirstFault text (Unsupported (byte_place text n))
unsupported_first text n r c u = (
  n,
  refl,
  clear_before text n r c.within c.so_far c.passes n (omega arith)
      (no_span_by text n r c.so_far (unsupported_head r.mode (drop n text) u)),
  unsupported_placed text n r c.within c.so_far u,
)

pub deep_first : (text : List ℕ) (n : ℕ) (r : Reading) → Comes text n r → is_unsupported r.mode (drop n text) ≡ false
    → is_too_deep (length r.groups) r.mode (drop n text) ≡ true → IsFirstFault text (CountTooLarge (byte_place text n))
deep_first text n r c u d = (
  n,
  refl,
  clear_before text n r c.within c.so_far c.passes n (omega arith)
      (no_span_by text n r c.so_far (inr (deep_head (length r.groups) r.mode (drop n text) d))),
  (λ h. false≢true (sym u ∙ unsupported_reads text n r c.within h c.so_far)),
  inl (deep_placed text n r c.within c.so_far d),
)

-- a quantifier doesn't begin where the machine stops
no_start : (text : List ℕ) (n : ℕ) (r : Reading) (bounds : List ℕ) (least : ℕ) (most : Option ℕ) → n < length text
    → reads (take n text) start ≡ Some r → step (get_or text n 0) r ≡ None → IsQuantifierAt text n bounds least most → ⊥
no_start text n r bounds least most lt e stop h = let s =
    quantifier_reads text n bounds least most r h e 0 (omega arith) in
    no_some s.0 (sym stop ∙ reads_step text n r s.0 lt e s.2)

-- where no character goes on
module _ (text : List ℕ) (n : ℕ) (r : Reading) (c : Comes text n r) (lt : n < length text)
    (stop : step (get_or text n 0) r ≡ None) (small : overcounts_at (get_or text n 0) r ≡ false) where
  stop_spans : (q : ℕ) (bounds : List ℕ) (least : ℕ) (most : Option ℕ) → q < n → n ≤ q + (length bounds + 1)
      → IsLargeAt text q bounds least most → ⊥
  stop_spans q bounds least most below le (h, large) =
      let i = interior text q bounds least most h n r below le c.so_far in by_interior i.0 i.1 i.2 large
    where
      by_large : (after_atom : Bool) → r.mode ≡ Braces after_atom → n ≡ q + (length bounds + 1) → get_or text n 0 ≡ 125
          → r.braces ≡ bounds → IsLarge text q bounds least most → ⊥
      by_large after_atom m same at b (inl above) =
          let all : bounds_of r.braces ≡ Some (least, most) =
          ap bounds_of b ∙ bounds_complete bounds least most h.are_bounds in
          false≢true (sym small ∙ overcounts_above r after_atom (get_or text n 0) least most m at all above)
      by_large after_atom m same at b (inr (begins, over)) =
          let next : q + (length bounds + 2) ≡ n + 1 = omega (arith, same) in
          let s = begins_reads (take (n + 1) text) (subst (λ (k : ℕ). BeginsPattern (take k text)) next begins) in
          no_some s.0 (sym stop ∙ reads_step text n r s.0 lt c.so_far s.1)

      by_interior : (after_atom : Bool) → r.mode ≡ Braces after_atom → InnerOrEnd text q bounds least most h n r
          → IsLarge text q bounds least most → ⊥
      by_interior after_atom m (inl inner) large =
          no_some _ (sym stop ∙ inner_step after_atom (get_or text n 0) r m inner)
      by_interior after_atom m (inr (same, at, b)) large = by_large after_atom m same at b large

  pub syntax_first : is_unsupported r.mode (drop n text) ≡ false
      → is_too_deep (length r.groups) r.mode (drop n text) ≡ false → IsFirstFault text (Syntax (byte_place text n))
  syntax_first u d = (
    n,
    refl,
    clear_before text n r c.within c.so_far c.passes n (omega arith) stop_spans,
    (λ h. false≢true (sym u ∙ unsupported_reads text n r c.within h c.so_far)),
    small_here,
    syntax_stops text n r lt c.so_far stop,
  )
    where
      small_here : IsTooLargeAt text n → ⊥
      small_here (inl deep) = false≢true (sym d ∙ deep_reads text n r c.within deep c.so_far)
      small_here (inr (inl (bounds, least, most, h, above))) = no_start text n r bounds least most lt c.so_far stop h
      small_here (inr (inr (bounds, least, most, h, begins, over))) =
          no_start text n r bounds least most lt c.so_far stop h

-- at the text's end no quantifier is open
end_spans : (text : List ℕ) (q : ℕ) (bounds : List ℕ) (least : ℕ) (most : Option ℕ) → q < length text
    → length text ≤ q + (length bounds + 1) → IsLargeAt text q bounds least most → ⊥
end_spans text q bounds least most lt le (h, large) = absurd (omega (arith, end_within text q bounds least most h, le))

too_large_within : (text : List ℕ) (q : ℕ) → IsTooLargeAt text q → q < length text
too_large_within text q (inl deep) = deep_within text q deep
too_large_within text q (inr (inl (bounds, least, most, h, above))) = quantifier_within text q bounds least most h
too_large_within text q (inr (inr (bounds, least, most, h, begins, over))) =
    quantifier_within text q bounds least most h

all_read : (text : List ℕ) (r : Reading) → reads (take (length text) text) start ≡ Some r → reads text start ≡ Some r
all_read text r e = ap (λ (xs : List ℕ). reads xs start) (sym (take_all (length text) text (omega arith))) ∙ e

pub end_first : (text : List ℕ) (r : Reading) → Comes text (length text) r → finished r ≡ None
    → IsFirstFault text (Syntax (byte_place text (length text)))
end_first text r c stop = (
  length text,
  refl,
  clear_before text (length text) r c.within c.so_far c.passes (length text) (omega arith) (end_spans text),
  (λ h. absurd (omega (arith, forms_within text (length text) h))),
  (λ h. absurd (omega (arith, too_large_within text (length text) h))),
  syntax_ends text r (all_read text r c.so_far) stop,
)

-- what is accepted has no fault
pub accepted_clear : (text : List ℕ) (r : Reading) (t : Tree) → Comes text (length text) r → finished r ≡ Some t
    → IsClear text
accepted_clear text r t c end_ = λ p. (
  (λ h. clear.supported p (forms_within text p h) h),
  (λ h. clear.small p (too_large_within text p h) h),
  by_place p,
)
  where
    clear : IsClearBefore text (length text)
    clear = clear_before text (length text) r c.within c.so_far c.passes (length text) (omega arith) (end_spans text)

    whole : IsPattern text t
    whole = accepted_is_pattern text t (ap (option_and_then finished) (all_read text r c.so_far) ∙ end_)

    by_place : (p : ℕ) → IsSyntaxAt text p → ⊥
    by_place p h = by_order (lt_or_same p (length text) h.within)
      where
        by_order : (p < length text) ⊎ (p ≡ length text) → ⊥
        by_order (inl lt) = clear.grammatical p lt h
        by_order (inr same) = h.ends same t whole

-- a quantifier that the machine finds too large
pub record Overcounts (c : ℕ) (r : Reading) (least : ℕ) (most : Option ℕ) : Type 0 where
  pub after_atom : Bool
  pub mode : r.mode ≡ Braces after_atom
  pub at_end : c ≡ 125
  pub bounds : bounds_of r.braces ≡ Some (least, most)
  pub large : (is_above_limit least most ≡ true)
      ⊎ ((after_atom ≡ true) × (nat_lt 100000 (r.atom_product * count_of least most) ≡ true))

large_of : (a b c : Bool) → a || b && c ≡ true → (a ≡ true) ⊎ ((b ≡ true) × (c ≡ true))
large_of true b c e = inl refl
large_of false true true e = inr (refl, refl)
large_of false true false e = absurd (false≢true e)
large_of false false c e = absurd (false≢true e)

no_head : (text rest : List ℕ) (c : ℕ) → HeadIs text c → text ≡ 123 ∷ rest → (c ≡ 123 → ⊥) → ⊥
no_head text rest c head e apart = let heads : c ∷ head.0 ≡ 123 ∷ rest = sym head.1 ∙ e in apart cc

abbrev IsOvercount : ℕ → Reading → Type 0
IsOvercount c r = (least : ℕ) × (most : Option ℕ) × Overcounts c r least most

overcounts_by : (after_atom : Bool) (c : ℕ) (r : Reading) (o : Option (ℕ × Option ℕ)) → r.mode ≡ Braces after_atom
    → c ≡ 125 → bounds_of r.braces ≡ o → overcounts o after_atom r ≡ true → IsOvercount c r
overcounts_by after_atom c r None m at b e = absurd (false≢true e)
overcounts_by after_atom c r (Some bounds) m at b e = (
  bounds.0,
  bounds.1,
  record {
    after_atom = after_atom;
    mode = m;
    at_end = at;
    bounds = b;
    large =
        large_of (is_above_limit bounds.0 bounds.1) after_atom
        (nat_lt 100000 (r.atom_product * count_of bounds.0 bounds.1)) e;
  },
)

overcounts_in_braces : (m : Mode) (c : ℕ) (r : Reading) → r.mode ≡ m → overcounts_in m c r ≡ true → IsOvercount c r
overcounts_in_braces (Braces after_atom) c r m e = let b =
    and_parts (c == 125) (overcounts (bounds_of r.braces) after_atom r) e in
    overcounts_by after_atom c r (bounds_of r.braces) m (eqb-true c 125 b.0) refl b.1
overcounts_in_braces other c r m e = absurd (false≢true e)

-- where a quantifier in braces ends that counts too much
module _ (text : List ℕ) (n : ℕ) (r : Reading) (c : Comes text n r) (lt : n < length text)
    (over : overcounts_at (get_or text n 0) r ≡ true) where
  overcount : IsOvercount (get_or text n 0) r
  overcount = overcounts_in_braces r.mode (get_or text n 0) r refl over

  abbrev BracesPlaced : Type 0
  BracesPlaced = (q : ℕ) × (q + (length r.braces + 1) ≡ n) × IsQuantifierAt text q r.braces overcount.0 overcount.1
      × (byte_place text q + (length r.braces + 1) ≡ byte_place text n)

  placed : BracesPlaced
  placed = let o = overcount.2 in quantifier_placed text n r o.after_atom overcount.0 overcount.1 lt c.so_far o.mode
      o.at_end o.bounds

  pub braces_fit : length r.braces < byte_place text n
  braces_fit = omega (arith, placed.3)

  -- the state after the quantifier
  abbrev next : Reading
  next = quantified overcount.0 overcount.1 (charged (r.atom_product * count_of overcount.0 overcount.1) r)

  next_step : overcount.2.after_atom ≡ true → step (get_or text n 0) r ≡ Some next
  next_step after =
      let o = overcount.2 in
      ap (λ (m : Mode). step_in m (get_or text n 0) r) (o.mode ∙ ap (λ (b : Bool). Braces b) after)
      ∙ ap (λ (k : ℕ). in_braces true k r) o.at_end
      ∙ ap (λ (b : Option (ℕ × Option ℕ)). in_braces_end b true 125 r) o.bounds

  next_reads : overcount.2.after_atom ≡ true → reads (take (n + 1) text) start ≡ Some next
  next_reads after = reads_more text n start r next lt c.so_far (next_step after)

  product_over : overcount.2.after_atom ≡ true
      → nat_lt 100000 (r.atom_product * count_of overcount.0 overcount.1) ≡ true → (rest : List ℕ) (tree : Tree)
      → IsPattern (take (n + 1) text ++ rest) tree → 100000 < product_of tree
  product_over after large rest tree h =
      let s = pattern_reads (take (n + 1) text) rest tree h in
      let same : s.0 ≡ next = same_Some s.0 next (sym s.1 ∙ next_reads after) in
      let completes : Completes next rest tree = subst (λ (y : Reading). Completes y rest tree) same s.2 in
      by_way completes (ltb-true 100000 (r.atom_product * count_of overcount.0 overcount.1) large) (measured.0)
    where
      measured : MeasuredBase true r
      measured = subst (λ (b : Bool). MeasuredBase b r) (ap after_atom_in overcount.2.mode ∙ after)
          (measured_reads text n r c.within c.passes c.so_far)

      above : (w : List ℕ) → InTerm next.trees next.groups w tree
          → product_of (top r.trees) * count_of overcount.0 overcount.1 ≤ product_of tree
      above w i = let a = term_above next.trees next.groups w tree i in omega (arith, a)

      by_way : InTerm next.trees next.groups rest tree
          ⊎ ((w : List ℕ) × (rest ≡ 63 ∷ w) × InTerm next.trees next.groups w tree)
          → 100000 < r.atom_product * count_of overcount.0 overcount.1 → r.atom_product ≡ product_of (top r.trees)
          → 100000 < product_of tree
      by_way (inl i) large same = let a = above rest i in let e =
          ap (λ (p : ℕ). p * count_of overcount.0 overcount.1) same in omega (arith, a, e, large)
      by_way (inr i) large same = let a = above i.0 i.2 in let e =
          ap (λ (p : ℕ). p * count_of overcount.0 overcount.1) same in omega (arith, a, e, large)

  is_too_large : IsTooLargeAt text placed.0
  is_too_large = by_kind overcount.2.large
    where
      end_is : n + 1 ≡ placed.0 + (length r.braces + 2)
      end_is = omega (arith, placed.1)

      by_kind : (is_above_limit overcount.0 overcount.1 ≡ true)
          ⊎ ((overcount.2.after_atom ≡ true) × (nat_lt 100000 (r.atom_product * count_of overcount.0 overcount.1) ≡
          true)) → IsTooLargeAt text placed.0
      by_kind (inl above) = inr (inl (r.braces, overcount.0, overcount.1, placed.2, above))
      by_kind (inr (after, large)) =
          let begins = reads_begins (take (n + 1) text) next (next_reads after) in
          inr (inr (
            r.braces,
            overcount.0,
            overcount.1,
            placed.2,
            subst (λ (k : ℕ). BeginsPattern (take k text)) end_is begins,
            subst (λ (k : ℕ). (rest : List ℕ) (tree : Tree) → IsPattern (take k text ++ rest) tree
                → 100000 < product_of tree) end_is (product_over after large),
          ))

  -- at its `{` no form begins, and no earlier quantifier is open
  supported_there : IsUnsupportedAt text placed.0 → ⊥
  supported_there (inl (depth, stands, form)) =
      by_form (or_cases (begins_unsupported_escape (drop placed.0 text)) (begins_named_group (drop placed.0 text)) form)
    where
      by_form : (begins_unsupported_escape (drop placed.0 text) ≡ true)
          ⊎ (begins_named_group (drop placed.0 text) ≡ true) → ⊥
      by_form (inl e) = no_head (drop placed.0 text) _ 92 (escape_head (drop placed.0 text) e) placed.2.braces
          (λ x. absurd (omega (arith, x)))
      by_form (inr e) = no_head (drop placed.0 text) _ 40 (named_head (drop placed.0 text) e) placed.2.braces
          (λ x. absurd (omega (arith, x)))
  supported_there (inr (depth, stands, form)) =
      no_head (drop placed.0 text) _ 92 (escape_head (drop placed.0 text) form) placed.2.braces
      (λ x. absurd (omega (arith, x)))

  over_spans : (q : ℕ) (bounds : List ℕ) (least : ℕ) (most : Option ℕ) → q < placed.0 → n ≤ q + (length bounds + 1)
      → IsLargeAt text q bounds least most → ⊥
  over_spans q bounds least most below le (h, large) =
      by_interior (interior text q bounds least most h n r (omega (arith, below, placed.1)) le c.so_far).2
    where
      by_interior : InnerOrEnd text q bounds least most h n r → ⊥
      by_interior (inl inner) = inner_apart r.braces (get_or text n 0) 125 inner overcount.2.at_end (inr (inr refl))
      by_interior (inr (same, at, b)) = absurd (omega (arith, same, below, placed.1, ap length b))

  pub overcounts_first : (place : ℕ) → place + (length r.braces + 1) ≡ byte_place text n
      → IsFirstFault text (CountTooLarge place)
  overcounts_first place e = (
    placed.0,
    omega (arith, e, placed.3),
    clear_before text n r c.within c.so_far c.passes placed.0 (omega (arith, placed.1)) over_spans,
    supported_there,
    is_too_large,
  )
