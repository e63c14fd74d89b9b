-- Each text of an entry but the last one ends with its empty line.
use Rattle.std.proofs.Common.{
  ◌≡◌,
  ◌==◌,
  ◌<◌,
  ◌≤◌,
  ◌⊎◌,
  inl,
  inr,
  ℕ,
  zero,
  suc,
  Bool,
  true,
  false,
  cond,
  List,
  [],
  ◌∷◌,
  ◌++◌,
  length,
  refl,
  sym,
  ap,
  ◌∙◌,
  Option,
  Some,
  None,
  arith,
  append_assoc,
}
use Rattle.std.specs.Prelude.{unwrap_or}
use Rattle.std.specs.Option.{option_or}
use Rattle.std.specs.List.{list_all}
use Rattle.std.proofs.lemmas.Bool.Decides.{eqb_tells}
use Rattle.yarn_lock_parser.specs.ByteSet.{is_blank}
use Rattle.yarn_lock_parser.specs.Front.{after_line_end, front, run}
use Rattle.yarn_lock_parser.specs.Cut.{
  after_empty_line,
  after_later_empty_line,
  after_first_empty_line,
  entry_text,
  entry_texts,
}
use Rattle.yarn_lock_parser.specs.Laws.{AllButLast, EndsWithEmptyLine, EntriesEndWithEmptyLines, IsLineEnd}
use Rattle.yarn_lock_parser.proofs.Cuts.{run-cons}
use Rattle.yarn_lock_parser.proofs.Every.{every-none, every-more}
use Rattle.sugar_path.proofs.Words.{after-some}
use Rattle.yarn_lock_parser.proofs.Fronts.{front-append}
use Rattle.yarn_lock_parser.proofs.Locks.{entry_text-shortens}
use Rattle.yarn_lock_parser.proofs.Rests.{either_form, run-whole}

-- ---- an empty line

abbrev parts : List ℕ → List ℕ → List ℕ × List ℕ
parts x y = (x, y)

run-all_nil : (set : ℕ → Bool) → list_all set (run set []).0 ≡ true
unfolding run
run-all_nil set = refl

run-all : (set : ℕ → Bool) (t : List ℕ) → list_all set (run set t).0 ≡ true
run-all set [] = run-all_nil set
run-all set (c ∷ cs) = rw (run-cons set c cs) (by_test (set c) refl (run-all set cs))
  where
    by_test : (b : Bool) → set c ≡ b → list_all set (run set cs).0 ≡ true
        → list_all set (cond b (parts (c ∷ (run set cs).0) (run set cs).1) (parts [] (c ∷ cs))).0 ≡ true
    by_test true is rest = rw is rest
    by_test false is rest = refl

-- a line end in front of a rest
abbrev Ended : List ℕ → List ℕ → Type 0
Ended t r = (line_end : List ℕ) × ((t ≡ line_end ++ r) × IsLineEnd line_end)

line_end-ended : (t r : List ℕ) → after_line_end t ≡ Some r → Ended t r
unfolding after_line_end
line_end-ended t r e =
    either_form _ _ r (Ended t r) e
    (λ found. (10 ∷ [], (after-some (10 ∷ []) t r found, inl refl)))
    (λ found. (13 ∷ 10 ∷ [], (after-some (13 ∷ 10 ∷ []) t r found, inr refl)))

-- a front that ends with an empty line, up to a rest
record CutHere (t r : List ℕ) : Type 0 where
  front : List ℕ
  is : t ≡ front ++ r
  ends : EndsWithEmptyLine front

-- a text cut behind an empty line that isn't its first line
record CutLater (t r : List ℕ) : Type 0 where
  before : List ℕ
  blanks : List ℕ
  line_end : List ℕ
  is : t ≡ (before ++ 10 ∷ []) ++ ((blanks ++ line_end) ++ r)
  are_blank : list_all is_blank blanks ≡ true
  ends : IsLineEnd line_end

abbrev EmptyLine : List ℕ → List ℕ → Type 0
EmptyLine t r = (blanks : List ℕ) × ((line_end : List ℕ)
    × ((t ≡ (blanks ++ line_end) ++ r) × ((list_all is_blank blanks ≡ true) × IsLineEnd line_end)))

empty_line-here : (t r : List ℕ) → after_empty_line t ≡ Some r → EmptyLine t r
unfolding after_empty_line
empty_line-here t r e =
    let ended = line_end-ended (run is_blank t).1 r e in
    let whole : t ≡ ((run is_blank t).0 ++ ended.0) ++ r =
    sym (run-whole is_blank t) ∙ ap (λ (u : List ℕ). (run is_blank t).0 ++ u) ended.1.0
    ∙ sym (append_assoc (run is_blank t).0 ended.0 r) in
    ((run is_blank t).0, (ended.0, (whole, (run-all is_blank t, ended.1.1))))

one_more : (c : ℕ) (cs r : List ℕ) → CutLater cs r → CutLater (c ∷ cs) r
one_more c cs r cut = record {
  before = c ∷ cut.before;
  blanks = cut.blanks;
  line_end = cut.line_end;
  is =
      ap (λ (u : List ℕ). c ∷ u) cut.is;
  are_blank = cut.are_blank;
  ends = cut.ends;
}

behind_feed : (c : ℕ) (cs r : List ℕ) → c ≡ 10 → EmptyLine cs r → CutLater (c ∷ cs) r
behind_feed c cs r feed (blanks, (line_end, (is, (are_blank, ends)))) =
    record {
      before = [];
      blanks = blanks;
      line_end = line_end;
      is = ap (λ (d : ℕ). d ∷ cs) feed
          ∙ ap (λ (u : List ℕ). 10 ∷ u) is;
      are_blank = are_blank;
      ends = ends;
    }

empty_line-later : (t r : List ℕ) → after_later_empty_line t ≡ Some r → CutLater t r
unfolding after_later_empty_line
empty_line-later [] r e = cc
empty_line-later (c ∷ cs) r e = by_test (eqb_tells c 10) e (empty_line-later cs r)
  where
    by_test : ((c == 10) ≡ true) × (c ≡ 10) ⊎ ((c == 10) ≡ false) × (c ≡ 10 → ⊥)
        → cond (c == 10) (option_or (after_empty_line cs) (after_later_empty_line cs)) (after_later_empty_line cs) ≡
        Some r → (after_later_empty_line cs ≡ Some r → CutLater cs r) → CutLater (c ∷ cs) r
    by_test (inl w) e rest =
        let found : option_or (after_empty_line cs) (after_later_empty_line cs) ≡ Some r = rw w.0 at e in
        either_form _ _ r (CutLater (c ∷ cs) r) found (λ here. behind_feed c cs r w.1 (empty_line-here cs r here))
        (λ later. one_more c cs r (rest later))
    by_test (inr w) e rest =
        let found : after_later_empty_line cs ≡ Some r = rw w.0 at e in one_more c cs r (rest found)

cut_here : (t r : List ℕ) → EmptyLine t r → CutHere t r
cut_here t r (blanks, (line_end, (is, (are_blank, ends)))) = record {
  front = blanks ++ line_end;
  is = is;
  ends = record {
    prior = [];
    blanks = blanks;
    line_end = line_end;
    is = refl;
    begins = inl refl;
    are_blank = are_blank;
    ends = ends;
  };
}

cut_later : (t r : List ℕ) → CutLater t r → CutHere t r
cut_later t r cut = record {
  front = (cut.before ++ 10 ∷ []) ++ (cut.blanks ++ cut.line_end);
  is = cut.is ∙ sym (append_assoc (cut.before ++ 10 ∷ []) (cut.blanks ++ cut.line_end) r);
  ends = record {
    prior = cut.before ++ 10 ∷ [];
    blanks = cut.blanks;
    line_end = cut.line_end;
    is = refl;
    begins =
        inr (cut.before, refl);
    are_blank = cut.are_blank;
    ends = cut.ends;
  };
}

first_empty-cut : (t r : List ℕ) → after_first_empty_line t ≡ Some r → CutHere t r
unfolding after_first_empty_line
first_empty-cut t r e = either_form _ _ r (CutHere t r) e (λ here. cut_here t r (empty_line-here t r here))
    (λ later. cut_later t r (empty_line-later t r later))

front-ends : (t r : List ℕ) → after_first_empty_line t ≡ Some r → EndsWithEmptyLine (front t r)
front-ends t r e =
    let cut = first_empty-cut t r e in
    let same : front t r ≡ cut.front = ap (λ (s : List ℕ). front s r) cut.is ∙ front-append cut.front r in
    rw same cut.ends

-- ---- the texts of the entries

-- what follows an entry's text is nothing, or the text ends with its empty line
entry_text-ends : (t : List ℕ) (x : List ℕ × List ℕ) → entry_text t ≡ Some x → (x.1 ≡ []) ⊎ EndsWithEmptyLine x.0
unfolding entry_text
entry_text-ends [] x e = cc
entry_text-ends (c ∷ cs) x e = by_cut (after_first_empty_line (c ∷ cs)) refl
    (let parts : (
      front (c ∷ cs) (unwrap_or (after_first_empty_line (c ∷ cs)) []),
      unwrap_or (after_first_empty_line (c ∷ cs)) [],
    ) ≡ x = cc in parts)
  where
    by_cut : (o : Option (List ℕ)) → after_first_empty_line (c ∷ cs) ≡ o
        → (front (c ∷ cs) (unwrap_or o []), unwrap_or o []) ≡ x → (x.1 ≡ []) ⊎ EndsWithEmptyLine x.0
    by_cut None is parts = inl (sym (ap (λ (y : List ℕ × List ℕ). y.1) parts))
    by_cut (Some r) is parts = inr (rw (← parts) (front-ends (c ∷ cs) r is))

put_first : (P : List ℕ → Type 0) (t : List ℕ) (ts : List (List ℕ)) → P t → AllButLast P ts → AllButLast P (t ∷ ts)
put_first P t [] p h = tt
put_first P t (u ∷ us) p h = (p, h)

entry_text-nil : entry_text [] ≡ None
unfolding entry_text
entry_text-nil = refl

nothing_more : (t : List ℕ) → t ≡ [] → entry_texts t ≡ []
nothing_more t e =
    ap entry_texts e ∙ ap (λ (read : List (List ℕ) × List ℕ). read.0) (every-none entry_text [] entry_text-nil)

by_entry : (t : List ℕ) → ((u : List ℕ) → length u < length t → AllButLast EndsWithEmptyLine (entry_texts u))
    → (o : Option (List ℕ × List ℕ)) → entry_text t ≡ o → AllButLast EndsWithEmptyLine (entry_texts t)
by_entry t shorter None e = rw (ap (λ (read : List (List ℕ) × List ℕ). read.0) (every-none entry_text t e)) tt
by_entry t shorter (Some x) e = rw (ap (λ (read : List (List ℕ) × List ℕ). read.0)
    (every-more entry_text entry_text-shortens t x e)) (by_end (entry_text-ends t x e))
  where
    by_end : (x.1 ≡ []) ⊎ EndsWithEmptyLine x.0 → AllButLast EndsWithEmptyLine (x.0 ∷ entry_texts x.1)
    by_end (inl last) = rw (nothing_more x.1 last) tt
    by_end (inr ends) = put_first EndsWithEmptyLine x.0 (entry_texts x.1) ends (shorter x.1 (entry_text-shortens t x e))

by_length : (n : ℕ) (t : List ℕ) → length t ≤ n → AllButLast EndsWithEmptyLine (entry_texts t)
by_length zero t h = by_entry t (λ u l. absurd (omega arith)) (entry_text t) refl
by_length (suc n) t h = by_entry t (λ u l. by_length n u (omega arith)) (entry_text t) refl

pub entries-end : EntriesEndWithEmptyLines
entries-end t = by_length (length t) t (omega arith)
