-- The tree of a text is the one that the grammar gives it, and a text without one has a first fault.
use Rattle.std.proofs.Common.{
  ◌≡◌,
  ℕ,
  zero,
  suc,
  ◌+◌,
  ◌-◌,
  ◌<◌,
  Bool,
  true,
  false,
  cond,
  List,
  ◌∷◌,
  length,
  get_or,
  drop,
  Option,
  Some,
  None,
  ◌⊎◌,
  inl,
  inr,
  refl,
  sym,
  ap,
  subst,
  ◌∙◌,
  arith,
  drop-cons,
}
use Rattle.std.specs.Prelude.{◌||◌, option_and_then}
use Rattle.std.proofs.lemmas.List.{take_all, drop_all, take_rest, get_or_default}
use Rattle.std.proofs.lemmas.Option.{same_Some}
use Rattle.es_pattern.specs.Tree.{Tree}
use Rattle.es_pattern.specs.Grammar.{IsPattern}
use Rattle.es_pattern.specs.declared.error.PatternError.{PatternError}
use Rattle.es_pattern.specs.declared.error.PatternError.TheVariants.{Syntax, Unsupported, CountTooLarge, NoMemory}
use Rattle.es_pattern.specs.Faults.{IsCaused, IsClear, IsFirstFault, byte_place}
use Rattle.es_pattern.specs.Refusals.{is_unsupported, is_too_deep}
use Rattle.es_pattern.specs.Reading.{Reading, step, reads, start, finished, accepted, overcounts_at}
use Rattle.es_pattern.specs.Accepted.{reads_clear, pattern_of}
use Rattle.es_pattern.specs.Laws.{PatternTells}
use Rattle.es_pattern.proofs.Sound.{accepted_is_pattern}
use Rattle.es_pattern.proofs.Beginnings.{pattern_accepted}
use Rattle.es_pattern.proofs.Parsings.{reads_more}
use Rattle.es_pattern.proofs.OneFault.{no_fault}
use Rattle.es_pattern.proofs.FirstFaults.{
  Comes,
  unsupported_first,
  deep_first,
  overcounts_first,
  syntax_first,
  end_first,
  accepted_clear,
  braces_fit,
}
use Rattle.es_pattern.proofs.Refusing.{reaches, passes_more}

-- what the answer says of the text
abbrev Told : List ℕ → Option Tree → Type 0
Told text (Some tree) = (accepted text ≡ Some tree) × IsClear text
Told text None = (e : PatternError) × IsFirstFault text e

-- at the text's end
at_end : (text : List ℕ) (r : Reading) → Comes text (length text) r → Told text (finished r)
at_end text r c = by_tree (finished r) refl
  where
    read : reads text start ≡ Some r
    read = ap (λ (xs : List ℕ). reads xs start) (sym (take_all (length text) text (omega arith))) ∙ c.so_far

    by_tree : (o : Option Tree) → finished r ≡ o → Told text o
    by_tree (Some tree) e = (ap (option_and_then finished) read ∙ e, accepted_clear text r tree c e)
    by_tree None e = (Syntax (byte_place text (length text)), end_first text r c e)

-- one character more without a refusal
comes_more : (text : List ℕ) (n : ℕ) (r s : Reading) → n < length text → Comes text n r
    → is_unsupported r.mode (drop n text) ≡ false → is_too_deep (length r.groups) r.mode (drop n text) ≡ false
    → overcounts_at (get_or text n 0) r ≡ false → step (get_or text n 0) r ≡ Some s → Comes text (n + 1) s
comes_more text n r s lt c u d small next = record {
  within = omega (arith, lt);
  so_far = reads_more text n start r s lt c.so_far next;
  passes = passes_more text n (length r.groups) (byte_place text n) r
      (reaches text n (length r.groups) (byte_place text n) r lt c.so_far c.passes refl refl)
      (subst (λ (rest : List ℕ). (is_unsupported r.mode rest ≡ false)
      × (is_too_deep (length r.groups) r.mode rest ≡ false)) (sym (take_rest text n)) (u, d)) (get_or text n 0)
      (get_or_default text n 0 (get_or text n 0) lt) small;
}

-- at a character, by what is refused there, and by its step
module _ (text : List ℕ) (n : ℕ) (r : Reading) (lt : n < length text) (c : Comes text n r) where
  abbrev here : ℕ
  here = get_or text n 0

  abbrev after : List ℕ
  after = drop (suc n) text

  split : drop n text ≡ here ∷ after
  split = drop-cons text n 0 lt

  -- what follows a step
  abbrev Goes : Option Reading → Type 0
  Goes s = Told text (option_and_then finished (option_and_then (reads_clear after) s))

  module _ (u : is_unsupported r.mode (drop n text) ≡ false)
      (d : is_too_deep (length r.groups) r.mode (drop n text) ≡ false) where
    by_step : (again : (s : Reading) → Comes text (n + 1) s → Goes (Some s)) (small : overcounts_at here r ≡ false)
        (s : Option Reading) → step here r ≡ s → Goes s
    by_step again small (Some s) e = again s (comes_more text n r s lt c u d small e)
    by_step again small None e = (Syntax (byte_place text n), syntax_first text n r c lt e small u d)

    by_count : (again : (s : Reading) → Comes text (n + 1) s → Goes (Some s)) (b : Bool) → overcounts_at here r ≡ b
        → Told text (option_and_then finished (cond b None (option_and_then (reads_clear after) (step here r))))
    by_count again false e = by_step again e (step here r) refl
    by_count again true e =
        let fit = braces_fit text n r c lt e in (
          CountTooLarge (byte_place text n - (length r.braces + 1)),
          overcounts_first text n r c lt e (byte_place text n - (length r.braces + 1)) (omega (arith, fit)),
        )

  by_depth : (again : (s : Reading) → Comes text (n + 1) s → Goes (Some s))
      → is_unsupported r.mode (drop n text) ≡ false → (b : Bool)
      → is_too_deep (length r.groups) r.mode (drop n text) ≡ b
      → Told text (option_and_then finished (cond (b || overcounts_at here r) None
      (option_and_then (reads_clear after) (step here r))))
  by_depth again u false e = by_count u e again (overcounts_at here r) refl
  by_depth again u true e = (CountTooLarge (byte_place text n), deep_first text n r c u e)

  by_form : (again : (s : Reading) → Comes text (n + 1) s → Goes (Some s)) → (b : Bool)
      → is_unsupported r.mode (drop n text) ≡ b
      → Told text (option_and_then finished (cond (b
      || (is_too_deep (length r.groups) r.mode (drop n text) || overcounts_at here r)) None
      (option_and_then (reads_clear after) (step here r))))
  by_form again false e = by_depth again e (is_too_deep (length r.groups) r.mode (drop n text)) refl
  by_form again true e = (Unsupported (byte_place text n), unsupported_first text n r c e)

  told_here : ((s : Reading) → Comes text (n + 1) s → Goes (Some s))
      → Told text (option_and_then finished (reads_clear (drop n text) r))
  told_here again =
      let at_rest = subst (λ (rest : List ℕ). Told text (option_and_then finished
      (cond (is_unsupported r.mode rest || (is_too_deep (length r.groups) r.mode rest || overcounts_at here r)) None
      (option_and_then (reads_clear after) (step here r))))) split
      (by_form again (is_unsupported r.mode (drop n text)) refl) in
      subst (λ (rest : List ℕ). Told text (option_and_then finished (reads_clear rest r))) (sym split) at_rest

told_from : (text : List ℕ) (k n : ℕ) (r : Reading) → n + k ≡ length text → Comes text n r
    → Told text (option_and_then finished (reads_clear (drop n text) r))
told_from text zero n r e c =
    let all : n ≡ length text = omega (arith, e) in
    subst (λ (rest : List ℕ). Told text (option_and_then finished (reads_clear rest r)))
    (sym (drop_all n text (omega (arith, e))))
    (at_end text r (subst (λ (m : ℕ). Comes text m r) all c))
told_from text (suc k) n r e c = told_here text n r (omega (arith, e)) c
    (λ s more. subst (λ (m : ℕ). Told text (option_and_then finished (reads_clear (drop m text) s))) {x = n + 1}
    {y = suc n} (omega arith) (told_from text k (n + 1) s (omega (arith, e)) more))

told : (text : List ℕ) → Told text (option_and_then finished (reads_clear text start))
told text = told_from text (length text) 0 start (omega arith)
    (record { within = omega arith; so_far = refl; passes = record { each = λ q lt. absurd (omega (arith, lt)) } })

told_as : (text : List ℕ) (o : Option Tree) → Told text (option_and_then finished (reads_clear text start))
    → option_and_then finished (reads_clear text start) ≡ o → Told text o
told_as text o h e = subst (Told text) e h

pub pattern_tells : PatternTells
unfolding pattern_of
pattern_tells = record {
  accepted = λ text tree. (
    λ e. let h = told_as text (Some tree) (told text) e in (accepted_is_pattern text tree h.0, h.1),
    λ h. by_answer text tree h (option_and_then finished (reads_clear text start)) refl,
  );
  refused = λ text. (
    λ e. told_as text None (told text) e,
    λ h. none_by text h (option_and_then finished (reads_clear text start)) refl,
  );
}
  where
    by_answer : (text : List ℕ) (tree : Tree) → IsPattern text tree × IsClear text → (o : Option Tree)
        → option_and_then finished (reads_clear text start) ≡ o
        → option_and_then finished (reads_clear text start) ≡ Some tree
    by_answer text tree h (Some t) e =
        let k = told_as text (Some t) (told text) e in
        e ∙ ap Some (same_Some t tree (sym k.0 ∙ pattern_accepted text tree h.0))
    by_answer text tree h None e = let k = told_as text None (told text) e in absurd (no_fault text k.0 h.1 k.1)

    none_by : (text : List ℕ) → (e : PatternError) × IsFirstFault text e → (o : Option Tree)
        → option_and_then finished (reads_clear text start) ≡ o
        → option_and_then finished (reads_clear text start) ≡ None
    none_by text h (Some t) e = let k = told_as text (Some t) (told text) e in absurd (no_fault text h.0 k.1 h.1)
    none_by text h None e = e

-- what is accepted is that pattern, and what an error is caused by is none
pub accepted_as : (text : List ℕ) (tree : Tree) → accepted text ≡ Some tree → IsClear text → pattern_of text ≡ Some tree
accepted_as text tree e clear = (pattern_tells.accepted text tree).1 (accepted_is_pattern text tree e, clear)

pub caused_none : (text : List ℕ) (e : PatternError) → IsCaused text e → (pattern_of text ≡ None) ⊎ (e ≡ NoMemory)
caused_none text (Syntax place) h = inl ((pattern_tells.refused text).1 (Syntax place, h))
caused_none text (Unsupported place) h = inl ((pattern_tells.refused text).1 (Unsupported place, h))
caused_none text (CountTooLarge place) h = inl ((pattern_tells.refused text).1 (CountTooLarge place, h))
caused_none text NoMemory h = inr refl
