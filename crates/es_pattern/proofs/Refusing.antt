-- What the machine answers at a character, as the text's faults say it.
use Rattle.std.proofs.Common.{
  ◌≡◌,
  ℕ,
  ◌+◌,
  ◌-◌,
  ◌<◌,
  ◌≤◌,
  true,
  false,
  List,
  inl,
  inr,
  length,
  get_or,
  take,
  drop,
  Some,
  None,
  sym,
  ap,
  subst,
  ◌∙◌,
  arith,
}
use Rattle.std.specs.Prelude.{◌⊎◌, Ok, Err, slice_index}
use Rattle.std.proofs.lemmas.List.{take_rest, get_or_read}
use Rattle.std.proofs.lemmas.Option.{same_Some}
use Rattle.es_pattern.specs.Tree.{Tree}
use Rattle.es_pattern.specs.declared.error.PatternError.{PatternError}
use Rattle.es_pattern.specs.declared.error.PatternError.TheVariants.{Syntax, Unsupported, CountTooLarge, NoMemory}
use Rattle.es_pattern.specs.Refusals.{is_unsupported, is_too_deep}
use Rattle.es_pattern.specs.Reading.{Reading, step, reads, start, finished, overcounts_at}
use Rattle.es_pattern.specs.Parsing.{PassesBefore, Refuses}
use Rattle.es_pattern.specs.Faults.{IsCaused, IsClear, IsFirstFault, byte_place}
use Rattle.es_pattern.proofs.FirstFaults.{
  Comes,
  unsupported_first,
  deep_first,
  syntax_first,
  end_first,
  accepted_clear,
  braces_fit,
  overcounts_first,
}
use Rattle.es_pattern.proofs.NumberTests.{lt_or_same}

-- the machine stands before a character, and its groups and the character's byte are counted
pub record Reaches (text : List ℕ) (n groups place : ℕ) (r : Reading) : Type 0 where
  pub within : n < length text
  pub comes : Comes text n r
  pub depth : groups ≡ length r.groups
  pub bytes : place ≡ byte_place text n

pub reaches : (text : List ℕ) (n groups place : ℕ) (r : Reading) → n < length text → reads (take n text) start ≡ Some r
    → PassesBefore text n → groups ≡ length r.groups → place ≡ byte_place text n → Reaches text n groups place r
reaches text n groups place r lt so_far passes depth bytes =
    record {
      within = lt;
      comes = record { within = omega (arith, lt); so_far = so_far; passes = passes };
      depth =
          depth;
      bytes = bytes;
    }

module _ (text : List ℕ) (n groups place : ℕ) (r : Reading) (h : Reaches text n groups place r) where
  abbrev RefusesHere : (e : PatternError) → Type 0
  RefusesHere e = Refuses groups r.mode (take (length text - n) (drop n text)) place (Err e)

  at_rest : (e : PatternError) → RefusesHere e
      → Refuses (length r.groups) r.mode (drop n text) (byte_place text n) (Err e)
  at_rest e f =
      subst (λ (p : ℕ). Refuses (length r.groups) r.mode (drop n text) p (Err e)) h.bytes
      (subst (λ (g : ℕ). Refuses g r.mode (drop n text) place (Err e)) h.depth
      (subst (λ (rest : List ℕ). Refuses groups r.mode rest place (Err e)) (take_rest text n) f))

  -- a refusal whatever the grammar says
  pub refused_caused : (e : PatternError) → RefusesHere e → IsCaused text e
  refused_caused (Syntax p) f = absurd f
  refused_caused (Unsupported p) f = let g = at_rest (Unsupported p) f in
      subst (λ (k : ℕ). IsFirstFault text (Unsupported k)) (sym g.0) (unsupported_first text n r h.comes g.1)
  refused_caused (CountTooLarge p) f = let g = at_rest (CountTooLarge p) f in
      subst (λ (k : ℕ). IsFirstFault text (CountTooLarge k)) (sym g.0) (deep_first text n r h.comes g.1 g.2)
  refused_caused NoMemory f = absurd f

  -- no refusal here
  abbrev PassesHere : Type 0
  PassesHere = Refuses groups r.mode (take (length text - n) (drop n text)) place (Ok tt)

  passed : PassesHere → (is_unsupported r.mode (drop n text) ≡ false)
      × (is_too_deep (length r.groups) r.mode (drop n text) ≡ false)
  passed f =
      subst (λ (g : ℕ). (is_unsupported r.mode (drop n text) ≡ false) × (is_too_deep g r.mode (drop n text) ≡ false))
      h.depth
      (subst (λ (rest : List ℕ). (is_unsupported r.mode rest ≡ false) × (is_too_deep groups r.mode rest ≡ false))
      (take_rest text n) f)

  abbrev Passes : ℕ → Reading → Type 0
  Passes q read = (is_unsupported read.mode (drop q text) ≡ false)
      × (is_too_deep (length read.groups) read.mode (drop q text) ≡ false)
      × (overcounts_at (slice_index text q) read ≡ false)

  module _ (x : PassesHere) (c : ℕ) (here : c ≡ get_or text n c) where
    char_is : c ≡ get_or text n 0
    char_is = get_or_read text n c h.within here 0

    -- one character more without a refusal
    pub passes_more : overcounts_at c r ≡ false → PassesBefore text (n + 1)
    passes_more small = record { each = λ q lt read e. by_order q read e (lt_or_same q n (omega (arith, lt))) }
      where
        at_here : Passes n r
        at_here = let p = passed x in (p.0, p.1, subst (λ (d : ℕ). overcounts_at d r ≡ false) char_is small)

        by_order : (q : ℕ) (read : Reading) → reads (take q text) start ≡ Some read → (q < n) ⊎ (q ≡ n) → Passes q read
        by_order q read e (inl lt) = h.comes.passes.each q lt read e
        by_order q read e (inr same) =
            let as_read : r ≡ read =
            same_Some r read (sym h.comes.so_far ∙ ap (λ (k : ℕ). reads (take k text) start) (sym same) ∙ e) in
            subst (λ (k : ℕ). Passes k read) (sym same) (subst (λ (s : Reading). Passes n s) as_read at_here)

    -- no character goes on so
    pub syntax_caused : (overcounts_at c r ≡ false) × (step c r ≡ None) → IsCaused text (Syntax place)
    syntax_caused f =
        let p = passed x in
        subst (λ (k : ℕ). IsFirstFault text (Syntax k)) (sym h.bytes)
        (syntax_first text n r h.comes h.within (subst (λ (d : ℕ). step d r ≡ None) char_is f.1)
        (subst (λ (d : ℕ). overcounts_at d r ≡ false) char_is f.0) p.0 p.1)

    over_here : overcounts_at c r ≡ true → overcounts_at (get_or text n 0) r ≡ true
    over_here f = subst (λ (d : ℕ). overcounts_at d r ≡ true) char_is f

    -- the braces are before the character, and where they begin the count is too large
    pub braces_before : (new : Reading) → (overcounts_at c r ≡ true) × (new ≡ r) → length new.braces < place
    braces_before new f = subst (λ (k : ℕ). length new.braces < k) (sym h.bytes)
        (subst (λ (s : Reading). length s.braces < byte_place text n) (sym f.1)
        (braces_fit text n r h.comes h.within (over_here f.0)))

    pub overcount_caused : (new : Reading) (at : ℕ) → (overcounts_at c r ≡ true) × (new ≡ r)
        → at + (length new.braces + 1) ≡ place → IsCaused text (CountTooLarge at)
    overcount_caused new at f e = overcounts_first text n r h.comes h.within (over_here f.0) at
        (ap (λ (s : Reading). at + (length s.braces + 1)) (sym f.1) ∙ e ∙ h.bytes)

-- at the text's end
pub end_caused : (text : List ℕ) (n place : ℕ) (r : Reading) → length text ≤ n → n ≤ length text
    → place ≡ byte_place text n → reads (take n text) start ≡ Some r → PassesBefore text n → finished r ≡ None
    → IsCaused text (Syntax place)
end_caused text n place r ge le at so_far passes f =
    let all : n ≡ length text = omega (arith, ge, le) in
    subst (λ (k : ℕ). IsFirstFault text (Syntax k)) (ap (byte_place text) (sym all) ∙ sym at)
    (end_first text r (record {
      within = omega arith;
      so_far = ap (λ (k : ℕ). reads (take k text) start) (sym all)
          ∙ so_far;
      passes = subst (λ (k : ℕ). PassesBefore text k) all passes;
    }) f)

pub end_clear : (text : List ℕ) (n : ℕ) (r : Reading) (t : Tree) → length text ≤ n → n ≤ length text
    → reads (take n text) start ≡ Some r → PassesBefore text n → finished r ≡ Some t → IsClear text
end_clear text n r t ge le so_far passes f =
    let all : n ≡ length text = omega (arith, ge, le) in
    accepted_clear text r t (record {
      within = omega arith;
      so_far = ap (λ (k : ℕ). reads (take k text) start) (sym all)
          ∙ so_far;
      passes = subst (λ (k : ℕ). PassesBefore text k) all passes;
    }) f
