-- The text between the last two of a mark, and what stands around it.
use Rattle.std.proofs.Common.{
  ◌≡◌,
  ◌≤◌,
  ◌+◌,
  ◌-◌,
  ◌==◌,
  ◌||◌,
  ℕ,
  Bool,
  true,
  false,
  cond,
  List,
  [],
  ◌∷◌,
  ◌++◌,
  length,
  take,
  drop,
  get_or,
  Some,
  None,
  refl,
  sym,
  ap,
  ◌∙◌,
  append_assoc,
  length-append,
  eq-eqb,
  arith,
}
use Rattle.std.specs.List.{after_last, before_last, list_any}
use Rattle.std.proofs.Math.Seq.{get_or-append_right, get_or-append_seam, drop-append-add, take-append_seam}
use Rattle.std.proofs.lemmas.Bool.{false≢true, eqb-true}
use Rattle.std.proofs.lemmas.List.Folds.{list_any_at}
use Rattle.std.proofs.lemmas.Option.{none-some, same_Some}
use Rattle.memchr.specs.Find.{IsLastByte, is_byte}
use Rattle.import_graph.specs.Lines.{behind_last, between_last, is_mark}
use Rattle.import_graph.specs.Laws.{BetweenLastMarks, StandsBetween}
use Rattle.import_graph.proofs.Marks.{before-none, before-some, after-some, marked}

-- a text cut at the last of a mark
record Cut (mark : ℕ) (text front behind : List ℕ) : Type 0 where
  whole : text ≡ front ++ (mark ∷ behind)
  bare : list_any (is_mark mark) behind ≡ false

-- no place of a text without the mark has it
nowhere : (mark : ℕ) (text : List ℕ) → list_any (is_mark mark) text ≡ false → IsLastByte (is_byte mark) text None
nowhere mark text bare = λ k low high yes. false≢true (sym bare ∙ list_any_at (is_mark mark) text k 0 high yes)

-- the last place of the mark in a text that is cut there
last-at : (mark : ℕ) (text front behind : List ℕ) → Cut mark text front behind
    → IsLastByte (is_byte mark) text (Some (length front))
last-at mark text front behind cut =
    let made : IsLastByte (is_byte mark) (front ++ (mark ∷ behind)) (Some (length front)) = (
      record {
        low = omega arith;
        high = omega (arith, length-append front (mark ∷ behind));
        after = λ k low high yes. nowhere mark behind cut.bare (k - (length front + 1)) (omega arith)
            (omega (arith, length-append front (mark ∷ behind), high, low))
            (ap (is_mark mark) (later k low) ∙ yes);
      },
      ap (is_mark mark) (get_or-append_seam front mark behind 0) ∙ eq-eqb mark mark refl,
    ) in
    rw cut.whole made
  where
    later : (k : ℕ) → length front + 1 ≤ k → get_or behind (k - (length front + 1)) 0 ≡ get_or
        (front ++ (mark ∷ behind)) k 0
    later k low =
        let one : length (front ++ (mark ∷ [])) ≡ length front + 1 = omega (arith, length-append front (mark ∷ [])) in
        let apart : k - length (front ++ (mark ∷ [])) ≡ k - (length front + 1) = omega (arith, one) in
        sym (ap (λ t. get_or t k 0) (sym (append_assoc front (mark ∷ []) behind))
        ∙ get_or-append_right (front ++ (mark ∷ [])) behind k 0 (omega (arith, one, low))
        ∙ ap (λ i. get_or behind i 0) apart)

before-cut : (mark : ℕ) (text front behind : List ℕ) → Cut mark text front behind
    → before_last (is_mark mark) text ≡ front
before-cut mark text front behind cut =
    before-some mark text (length front) (last-at mark text front behind cut) ∙ ap (take (length front)) cut.whole
    ∙ take-append_seam front (mark ∷ behind)

after-cut : (mark : ℕ) (text front behind : List ℕ) → Cut mark text front behind
    → after_last (is_mark mark) text ≡ behind
after-cut mark text front behind cut =
    after-some mark text (length front) (last-at mark text front behind cut) ∙ ap (drop (length front + 1)) cut.whole
    ∙ drop-append-add front (mark ∷ behind) 1

behind-cut : (mark : ℕ) (text front behind : List ℕ) → Cut mark text front behind → behind_last mark text ≡ Some behind
behind-cut mark text front behind cut =
    ap (λ b. cond b (Some (after_last (is_mark mark) text)) None)
    (marked mark text (length front) (last-at mark text front behind cut))
    ∙ ap (λ t. Some t) (after-cut mark text front behind cut)

-- a text with the mark in it is cut at the last one
cuts : (mark : ℕ) (text : List ℕ) → list_any (is_mark mark) text ≡ true → (front : List ℕ) × (behind : List ℕ)
    × Cut mark text front behind
cuts mark [] some = absurd (false≢true some)
cuts mark (b ∷ text) some = by_test (list_any (is_mark mark) text) refl (b == mark) refl some (cuts mark text)
  where
    by_test : (later : Bool) → list_any (is_mark mark) text ≡ later → (here : Bool) → (b == mark) ≡ here → here
        || later ≡ true
        → (list_any (is_mark mark) text ≡ true → (front : List ℕ) × (behind : List ℕ) × Cut mark text front behind)
        → (front : List ℕ) × (behind : List ℕ) × Cut mark (b ∷ text) front behind
    by_test true is here at some rest =
        let cut = rest is in
        (b ∷ cut.0, cut.1, record { whole = ap (λ t. b ∷ t) cut.2.whole; bare = cut.2.bare })
    by_test false is true at some rest =
        ([], text, record { whole = ap (λ c. c ∷ text) (eqb-true b mark at); bare = is })
    by_test false is false at some rest = absurd (false≢true some)

-- where something is told behind the last mark, the text is cut there
cut-behind : (mark : ℕ) (text told : List ℕ) → behind_last mark text ≡ Some told → (front : List ℕ)
    × Cut mark text front told
cut-behind mark text told e = by_test (list_any (is_mark mark) text) refl e
  where
    by_test : (b : Bool) → list_any (is_mark mark) text ≡ b
        → cond b (Some (after_last (is_mark mark) text)) None ≡ Some told → (front : List ℕ) × Cut mark text front told
    by_test true some x =
        let cut = cuts mark text some in
        let same : cut.1 ≡ told = sym (after-cut mark text cut.0 cut.1 cut.2) ∙ same_Some _ _ x in (
          cut.0,
          record {
            whole = cut.2.whole ∙ ap (λ t. cut.0 ++ (mark ∷ t)) same;
            bare =
                ap (list_any (is_mark mark)) (sym same) ∙ cut.2.bare;
          },
        )
    by_test false none x = absurd (none-some told x)

pub stands : (mark : ℕ) (line text : List ℕ) → between_last mark line ≡ Some text → StandsBetween mark line text
stands mark line text e = by_test (list_any (is_mark mark) line) refl
  where
    by_test : (b : Bool) → list_any (is_mark mark) line ≡ b → StandsBetween mark line text
    by_test true some =
        let last = cuts mark line some in
        let first =
        cut-behind mark last.0 text (ap (behind_last mark) (sym (before-cut mark line last.0 last.1 last.2)) ∙ e) in
        record {
          front = first.0;
          behind = last.1;
          whole = last.2.whole ∙ ap (λ t. t ++ (mark ∷ last.1)) first.1.whole
              ∙ append_assoc first.0 (mark ∷ text) (mark ∷ last.1);
          in_text = first.1.bare;
          in_behind = last.2.bare;
        }
    by_test false none =
        absurd (none-some text (sym (ap (behind_last mark) (before-none mark line (nowhere mark line none))) ∙ e))

pub taken : (mark : ℕ) (line text : List ℕ) → StandsBetween mark line text → between_last mark line ≡ Some text
taken mark line text h =
    let last : Cut mark line (h.front ++ (mark ∷ text)) h.behind =
    record { whole = h.whole ∙ sym (append_assoc h.front (mark ∷ text) (mark ∷ h.behind)); bare = h.in_behind } in
    let first : Cut mark (h.front ++ (mark ∷ text)) h.front text = record { whole = refl; bare = h.in_text } in
    ap (behind_last mark) (before-cut mark line (h.front ++ (mark ∷ text)) h.behind last)
    ∙ behind-cut mark (h.front ++ (mark ∷ text)) h.front text first

pub between_last_marks : BetweenLastMarks
between_last_marks = λ mark line text. (stands mark line text, taken mark line text)
