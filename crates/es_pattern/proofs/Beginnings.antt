-- The states that the machine comes to are those of the texts that patterns begin with.
use Rattle.std.proofs.Common.{
  ◌≡◌,
  ℕ,
  ◌+◌,
  ◌<◌,
  ◌≤◌,
  List,
  [],
  ◌∷◌,
  ◌++◌,
  length,
  get_or,
  take,
  Option,
  Some,
  None,
  refl,
  sym,
  ap,
  subst,
  ◌∙◌,
  arith,
}
use Rattle.std.specs.Prelude.{option_and_then}
use Rattle.std.proofs.lemmas.List.{append-nil, take_all}
use Rattle.std.proofs.lemmas.Option.{same_Some}
use Rattle.es_pattern.specs.Tree.{Tree, nothing}
use Rattle.es_pattern.specs.Grammar.{never, alternatives, Reads, IsPattern}
use Rattle.es_pattern.specs.Reading.{Reading, step, reads, start, finished, accepted}
use Rattle.es_pattern.specs.Faults.{BeginsPattern, IsSyntaxAt}
use Rattle.es_pattern.proofs.Parsings.{reads_part, reads_step}
use Rattle.es_pattern.proofs.Sound.{Completes, step_completes, Taken}
use Rattle.es_pattern.proofs.Sane.{IsSane}
use Rattle.es_pattern.proofs.Viable.{viable}
use Rattle.es_pattern.proofs.Taking.{taking}
use Rattle.es_pattern.proofs.TakingEnds.{taking_end}
use Rattle.es_pattern.proofs.Kept.{sane_next, sane_reads}
use Rattle.es_pattern.proofs.NumberTests.{no_some}

-- what completes the state that a text leads to completes the state before it, with the text in front
pub completes_before : (xs : List ℕ) (r s : Reading) (w : List ℕ) (t : Tree) → reads xs r ≡ Some s → Completes s w t
    → Completes r (xs ++ w) t
completes_before [] r s w t e h = subst (λ (y : Reading). Completes y w t) (sym (same_Some r s e)) h
completes_before (c ∷ xs) r s w t e h = by_step (step c r) refl (λ next g. completes_before xs next s w t g h) e
  where
    by_step : (o : Option Reading) → step c r ≡ o
        → ((next : Reading) → reads xs next ≡ Some s → Completes next (xs ++ w) t)
        → option_and_then (reads xs) o ≡ Some s → Completes r (c ∷ (xs ++ w)) t
    by_step None is again g = no_some s g
    by_step (Some next) is again g = step_completes r.mode c r next (xs ++ w) t refl is (again next g)

-- and the other way
completes_after : (xs : List ℕ) (r : Reading) (w : List ℕ) (t : Tree) → IsSane r → Completes r (xs ++ w) t
    → Taken (reads xs r) w t
completes_after [] r w t sane h = (r, refl, h)
completes_after (c ∷ xs) r w t sane h =
    let next = taking c r (xs ++ w) t sane h in
    let later = completes_after xs next.0 w t (sane_next c r next.0 sane next.1) next.2 in
    (later.0, ap (option_and_then (reads xs)) next.1 ∙ later.1, later.2)

pattern_completes : (text : List ℕ) (t : Tree) → IsPattern text t → Completes start text t
pattern_completes text t h = ([], t, h, (refl, refl))

pub completes_pattern : (text : List ℕ) (t : Tree) → Completes start text t → IsPattern text t
completes_pattern text t i =
    subst (λ (o : List ℕ). Reads (alternatives never nothing t) text o) i.3.0
    (subst (λ (u : Tree). Reads (alternatives never nothing u) text i.0) i.3.1 i.2)

sane_start : IsSane start
sane_start = tt

-- a pattern that begins with the text leads to a state, which its rest completes
pub pattern_reads : (xs w : List ℕ) (t : Tree) → IsPattern (xs ++ w) t → Taken (reads xs start) w t
pattern_reads xs w t h = completes_after xs start w t sane_start (pattern_completes (xs ++ w) t h)

pub begins_reads : (xs : List ℕ) → BeginsPattern xs → (s : Reading) × (reads xs start ≡ Some s)
begins_reads xs h = let s = pattern_reads xs h.0 h.1 h.2 in (s.0, s.1)

pub reads_begins : (xs : List ℕ) (s : Reading) → reads xs start ≡ Some s → BeginsPattern xs
reads_begins xs s e =
    let v = viable s (sane_reads xs s e) in
    (v.0, v.1, completes_pattern (xs ++ v.0) v.1 (completes_before xs start s v.0 v.1 e v.2))

-- what the grammar makes of a text is what is accepted
pub pattern_accepted : (text : List ℕ) (t : Tree) → IsPattern text t → accepted text ≡ Some t
pattern_accepted text t h =
    let s = pattern_reads text [] t (subst (λ (xs : List ℕ). IsPattern xs t) (sym (append-nil text)) h) in
    ap (option_and_then finished) s.1 ∙ taking_end s.0.mode s.0 t refl (sane_reads text s.0 s.1) s.2

-- where the next character, or the text's end, leads to nothing
pub syntax_stops : (text : List ℕ) (n : ℕ) (r : Reading) → n < length text → reads (take n text) start ≡ Some r
    → step (get_or text n 0) r ≡ None → IsSyntaxAt text n
syntax_stops text n r lt e stop = record {
  within = omega (arith, lt);
  begins = reads_begins (take n text) r e;
  stops =
      λ here h. let s = begins_reads (take (n + 1) text) h in no_some s.0 (sym stop ∙ reads_step text n r s.0 lt e s.1);
  ends = λ at_end. absurd (omega (arith, lt, at_end));
}

pub syntax_ends : (text : List ℕ) (r : Reading) → reads text start ≡ Some r → finished r ≡ None
    → IsSyntaxAt text (length text)
syntax_ends text r e stop =
    let whole : take (length text) text ≡ text = take_all (length text) text (omega arith) in
    record {
      within = omega arith;
      begins = subst (λ (xs : List ℕ). BeginsPattern xs) (sym whole) (reads_begins text r e);
      stops = λ lt. absurd (omega (arith, lt));
      ends =
          λ at_end tree h. no_some tree (sym (ap (option_and_then finished) e ∙ stop) ∙ pattern_accepted text tree h);
    }

-- what is read so far has no syntax fault
pub no_syntax_before : (text : List ℕ) (n : ℕ) (r : Reading) → n ≤ length text → reads (take n text) start ≡ Some r
    → (q : ℕ) → q < n → IsSyntaxAt text q → ⊥
no_syntax_before text n r le e q lt h =
    let s = reads_part text (q + 1) n r (omega (arith, lt)) e in
    h.stops (omega (arith, lt, le)) (reads_begins (take (q + 1) text) s.0 s.1)
