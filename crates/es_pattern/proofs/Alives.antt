-- The steps of a program that are alive at a place.
use Rattle.std.proofs.Common.{
  ◌≡◌,
  ℕ,
  zero,
  suc,
  ◌+◌,
  ◌-◌,
  ◌<◌,
  ◌≤◌,
  Bool,
  true,
  false,
  cond,
  List,
  [],
  ◌∷◌,
  ◌++◌,
  ◌⊎◌,
  inl,
  inr,
  length,
  take,
  Some,
  None,
  refl,
  sym,
  subst,
  ◌∙◌,
  arith,
}
use Rattle.std.specs.Prelude.{slice_get, Contains, nat_le}
use Rattle.std.proofs.lemmas.Bool.{false≢true}
use Rattle.std.proofs.lemmas.Bool.Decides.{nat_tests}
use Rattle.std.proofs.lemmas.Option.{slice_get_within, same_Some, none-some}
use Rattle.std.proofs.lemmas.List.Elements.{
  Contains-append_left,
  Contains-append_right,
  Contains-append_cases,
  Contains-push,
  Contains-push_cases,
}
use Rattle.es_pattern.specs.declared.step.Step.{Step}
use Rattle.es_pattern.specs.declared.step.Step.TheVariants.{Pass, Fork, Jump, Back}
use Rattle.es_pattern.specs.declared.step.Direction.{Direction}
use Rattle.es_pattern.specs.declared.step.Direction.TheVariants.{Forward, Backward}
use Rattle.es_pattern.specs.declared.alive.Passing.{Passing}
use Rattle.es_pattern.specs.declared.alive.Passing.TheVariants.{Stops, Stays, Moves}
use Rattle.es_pattern.specs.declared.piece.Piece.{Piece}
use Rattle.es_pattern.specs.declared.piece.Piece.TheVariants.{
  Nothing,
  OneOf,
  TextStart,
  TextEnd,
  WordBoundary,
  Sequence,
  Choice,
  Repetition,
  Lookahead,
}
use Rattle.es_pattern.specs.Tree.{Tree}
use Rattle.es_pattern.specs.Spans.{Spans}
use Rattle.es_pattern.specs.Pieces.{top, with_piece, with_pieces}
use Rattle.es_pattern.specs.Program.{Does, Goes, Runs, Comes, IsAlive}
use Rattle.es_pattern.specs.Passing.{IsSingle, PassesPiece, Passes, PassesAs, After}
use Rattle.es_pattern.specs.NumberSet.{Has, has}
use Rattle.es_pattern.specs.Alive.{if_within, same_place, next_place, Settling, Settled, Arrives}
use Rattle.es_pattern.proofs.Passings.{tree_at_is}
use Rattle.es_pattern.proofs.NumberTests.{lt_or_le}

contains_none : (q : ℕ) → Contains [] q → ⊥
contains_none q h = omega (arith, h.1)

contains_one : (x q : ℕ) → Contains (x ∷ []) q → x ≡ q
contains_one x q h = by_cases (Contains-push_cases [] x q h)
  where
    by_cases : Contains [] q ⊎ (x ≡ q) → x ≡ q
    by_cases (inl n) = absurd (contains_none q n)
    by_cases (inr e) = e

is_one : (x q : ℕ) → x ≡ q → Contains (x ∷ []) q
is_one x q e = subst (λ (y : ℕ). Contains (x ∷ []) y) e (Contains-push [] x)

within_is : (size x q : ℕ) → Contains (if_within size x) q → x ≡ q
within_is size x q h = by_test (nat_le x size) h
  where
    by_test : (b : Bool) → Contains (cond b (x ∷ []) []) q → x ≡ q
    by_test true h = contains_one x q h
    by_test false h = absurd (contains_none q h)

is_within_size : (size x q : ℕ) → x ≡ q → q ≤ size → Contains (if_within size x) q
is_within_size size x q e le = by_test (nat_le x size) refl
  where
    by_test : (b : Bool) → nat_le x size ≡ b → Contains (cond b (x ∷ []) []) q
    by_test true h = is_one x q e
    by_test false h = absurd (grind (arith, nat_tests))

few_within : (size x : ℕ) → length (if_within size x) ≤ 1
few_within size x = by_test (nat_le x size)
  where
    by_test : (b : Bool) → length (cond b (x ∷ []) []) ≤ 1
    by_test true = omega arith
    by_test false = omega arith

-- the next place is one, and another one than the place
after_is : (d : Direction) (i j k : ℕ) → After d i j → After d i k → j ≡ k
after_is Forward i j k a b = omega (arith, a, b)
after_is Backward i j k a b = omega (arith, a, b)

before_is : (d : Direction) (i j k : ℕ) → After d i k → After d j k → i ≡ j
before_is Forward i j k a b = omega (arith, a, b)
before_is Backward i j k a b = omega (arith, a, b)

after_apart : (d : Direction) (i : ℕ) → After d i i → ⊥
after_apart Forward i a = omega (arith, a)
after_apart Backward i a = omega (arith, a)

-- the end of the part that a single piece spans is its start or the next place
piece_near : (pieces : List Piece) (text : List ℕ) (number i j : ℕ) → PassesPiece pieces text number i j → (j ≡ i)
    ⊎ ((j ≡ i + 1) × (i < length text))
piece_near pieces text number i j h = by_piece h.piece h.single
    (subst (λ (t : Tree). Spans t text i j) (tree_at_is pieces number h.piece h.stands) h.spans)
  where
    by_piece : (p : Piece) → IsSingle p → Spans (top (with_piece p (with_pieces (take number pieces) []))) text i j
        → (j ≡ i) ⊎ ((j ≡ i + 1) × (i < length text))
    by_piece Nothing single s = absurd single
    by_piece (OneOf negated ranges) single s = inr (s.1, s.0)
    by_piece TextStart single s = inl (sym s.0)
    by_piece TextEnd single s = inl (sym s.0)
    by_piece (WordBoundary negated) single s = inl (sym s.0)
    by_piece Sequence single s = absurd single
    by_piece Choice single s = absurd single
    by_piece (Repetition least more) single s = absurd single
    by_piece (Lookahead true) single s = inl (sym s.0)
    by_piece (Lookahead false) single s = inl (sym s.0)

-- a step leads to its place, or to the next one, within the text
abbrev Near : Direction → ℕ → ℕ → ℕ → Type 0
Near d size i j = (j ≡ i) ⊎ (After d i j × (i ≤ size → j ≤ size))

passes_near : (d : Direction) (pieces : List Piece) (text : List ℕ) (number i j : ℕ) → Passes d pieces text number i j
    → Near d (length text) i j
passes_near Forward pieces text number i j h = by_cases (piece_near pieces text number i j h)
  where
    by_cases : (j ≡ i) ⊎ ((j ≡ i + 1) × (i < length text)) → Near Forward (length text) i j
    by_cases (inl e) = inl e
    by_cases (inr e) = inr (e.0, λ le. omega (arith, e.0, e.1))
passes_near Backward pieces text number i j h = by_cases (piece_near pieces text number j i h)
  where
    by_cases : (i ≡ j) ⊎ ((i ≡ j + 1) × (j < length text)) → Near Backward (length text) i j
    by_cases (inl e) = inl (sym e)
    by_cases (inr e) = inr (e.0, λ le. omega (arith, e.0, le))

does_near : (d : Direction) (pieces : List Piece) (text : List ℕ) (s : Step) (at i q j : ℕ)
    → Does (Passes d pieces text) s at i q j → Near d (length text) i j
does_near d pieces text (Pass number) at i q j h = passes_near d pieces text number i j h.1
does_near d pieces text (Fork by) at i q j h = inl h.1
does_near d pieces text (Jump by) at i q j h = inl h.1
does_near d pieces text (Back by) at i q j h = inl h.1

-- what a step does, where what its piece does is known
abbrev pub StepAs : Direction → List Piece → List ℕ → ℕ → Step → Passing → Type 0
StepAs d pieces text place (Pass number) passing = PassesAs d pieces text number place passing
StepAs d pieces text place (Fork by) passing = Unit {0}
StepAs d pieces text place (Jump by) passing = Unit {0}
StepAs d pieces text place (Back by) passing = Unit {0}

abbrev Onward : Direction → (ℕ → ℕ → ℕ → Type 0) → List Step → ℕ → ℕ → ℕ → ℕ → List ℕ → List ℕ → Type 0
Onward d passes program at place q j xs ys = ((j ≡ place) × Contains xs q) ⊎ (After d place j × Contains ys q)

-- all that a step leads to
pub record Leads (d : Direction) (passes : ℕ → ℕ → ℕ → Type 0) (program : List Step) (at place : ℕ) (xs ys : List ℕ) :
    Type 0 where
  pub same : (q : ℕ) → Contains xs q → Goes passes program at place q place
  pub later : (q : ℕ) → Contains ys q → (j : ℕ) × After d place j × Goes passes program at place q j
  pub all : (q j : ℕ) → Goes passes program at place q j → q ≤ length program → ((j ≡ place) × Contains xs q)
      ⊎ (After d place j × Contains ys q)

module _ (d : Direction) (pieces : List Piece) (text : List ℕ) (program : List Step) (at place : ℕ) where
  abbrev passes : ℕ → ℕ → ℕ → Type 0
  passes = Passes d pieces text

  -- where no step stands
  pub leads_none : slice_get program at ≡ None → Leads d (Passes d pieces text) program at place [] []
  leads_none h = record {
    same = λ q n. absurd (contains_none q n);
    later = λ q n. absurd (contains_none q n);
    all = λ q j g le. absurd (none-some g.step (sym h ∙ g.stands));
  }

  module _ (s : Step) (stands : slice_get program at ≡ Some s) where
    goes_by : (i q j : ℕ) → Does (Passes d pieces text) s at i q j → Goes (Passes d pieces text) program at i q j
    goes_by i q j does = record { step = s; stands = stands; does = does }

    does_by : (i q j : ℕ) → Goes (Passes d pieces text) program at i q j → Does (Passes d pieces text) s at i q j
    does_by i q j g =
        subst (λ (t : Step). Does (Passes d pieces text) t at i q j) (same_Some g.step s (sym g.stands ∙ stands)) g.does

  abbrev LeadsBy : Step → Passing → Type 0
  LeadsBy s passing = Leads d (Passes d pieces text) program at place (same_place s at (length program) passing)
      (next_place s at passing)

  leads_pass : (number : ℕ) (passing : Passing) → slice_get program at ≡ Some (Pass number)
      → PassesAs d pieces text number place passing → LeadsBy (Pass number) passing
  leads_pass number Stops h p = record {
    same = λ q n. absurd (contains_none q n);
    later = λ q n. absurd (contains_none q n);
    all = λ q j g le. absurd (p j (does_by (Pass number) h place q j g).1);
  }
  leads_pass number Stays h p = record {
    same = λ q n. goes_by (Pass number) h place q place (omega (arith, contains_one (at + 1) q n), p.0);
    later = λ q n. absurd (contains_none q n);
    all = λ q j g le. let does = does_by (Pass number) h place q j g in
        inl (p.1 j does.1, is_one (at + 1) q (omega (arith, does.0)));
  }
  leads_pass number Moves h p = record {
    same = λ q n. absurd (contains_none q n);
    later = λ q n. (p.0, p.1, goes_by (Pass number) h place q p.0 (omega (arith, contains_one (at + 1) q n), p.3));
    all = λ q j g le. let does = does_by (Pass number) h place q j g in
        inr (subst (λ (x : ℕ). After d place x) (sym (p.4 j does.1)) p.1, is_one (at + 1) q (omega (arith, does.0)));
  }

  leads_fork : (by : ℕ) (passing : Passing) → slice_get program at ≡ Some (Fork by) → LeadsBy (Fork by) passing
  leads_fork by passing h = record {
    same = λ q n. goes_by (Fork by) h place q place (
      forked q
          (Contains-append_cases ((at + 1) ∷ []) (if_within (length program) (at + by)) q n),
      refl,
    );
    later = λ q n. absurd (contains_none q n);
    all = λ q j g le. let does = does_by (Fork by) h place q j g in inl (does.1, found q le does.0);
  }
    where
      forked : (q : ℕ) → Contains ((at + 1) ∷ []) q ⊎ Contains (if_within (length program) (at + by)) q → (q ≡ suc at)
          ⊎ (q ≡ at + by)
      forked q (inl n) = inl (omega (arith, contains_one (at + 1) q n))
      forked q (inr n) = inr (sym (within_is (length program) (at + by) q n))

      found : (q : ℕ) → q ≤ length program → (q ≡ suc at) ⊎ (q ≡ at + by)
          → Contains ((at + 1) ∷ if_within (length program) (at + by)) q
      found q le (inl e) = Contains-append_left ((at + 1) ∷ []) (if_within (length program) (at + by)) q
          (is_one (at + 1) q (omega (arith, e)))
      found q le (inr e) = Contains-append_right ((at + 1) ∷ []) (if_within (length program) (at + by)) q
          (is_within_size (length program) (at + by) q (sym e) le)

  leads_jump : (by : ℕ) (passing : Passing) → slice_get program at ≡ Some (Jump by) → LeadsBy (Jump by) passing
  leads_jump by passing h = record {
    same = λ q n. goes_by (Jump by) h place q place (sym (within_is (length program) (at + by) q n), refl);
    later = λ q n. absurd (contains_none q n);
    all = λ q j g le. let does = does_by (Jump by) h place q j g in
        inl (does.1, is_within_size (length program) (at + by) q (sym does.0) le);
  }

  leads_back : (by : ℕ) (passing : Passing) → slice_get program at ≡ Some (Back by) → LeadsBy (Back by) passing
  leads_back by passing h = by_test (nat_le by at) refl
    where
      by_test : (b : Bool) → nat_le by at ≡ b
          → Leads d (Passes d pieces text) program at place (cond b ((at - by) ∷ []) []) []
      by_test true yes_ =
          let le : by ≤ at = grind (arith, nat_tests) in
          record {
            same = λ q n. goes_by (Back by) h place q place (omega (arith, le, contains_one (at - by) q n), refl);
            later = λ q n. absurd (contains_none q n);
            all = λ q j g within. let does = does_by (Back by) h place q j g in
                inl (does.1, is_one (at - by) q (omega (arith, does.0, le)));
          }
      by_test false no_ =
          let gt : at < by = grind (arith, nat_tests) in
          record {
            same = λ q n. absurd (contains_none q n);
            later = λ q n. absurd (contains_none q n);
            all = λ q j g within. let does = does_by (Back by) h place q j g in absurd (omega (arith, does.0, gt));
          }

  pub leads_step : (s : Step) (passing : Passing) → slice_get program at ≡ Some s → StepAs d pieces text place s passing
      → LeadsBy s passing
  leads_step (Pass number) passing h p = leads_pass number passing h p
  leads_step (Fork by) passing h p = leads_fork by passing h
  leads_step (Jump by) passing h p = leads_jump by passing h
  leads_step (Back by) passing h p = leads_back by passing h

-- at most two steps wait after one
pub few_same : (s : Step) (at size : ℕ) (passing : Passing) → length (same_place s at size passing) ≤ 2
few_same (Pass number) at size Stops = omega arith
few_same (Pass number) at size Stays = omega arith
few_same (Pass number) at size Moves = omega arith
few_same (Fork by) at size passing = omega (arith, few_within size (at + by))
few_same (Jump by) at size passing = omega (arith, few_within size (at + by))
few_same (Back by) at size passing = by_test (nat_le by at)
  where
    by_test : (b : Bool) → length (cond b ((at - by) ∷ []) []) ≤ 2
    by_test true = omega arith
    by_test false = omega arith

-- a step leads to at most one at the next place
pub few_next : (s : Step) (at : ℕ) (passing : Passing) → length (next_place s at passing) ≤ 1
few_next (Pass number) at Stops = omega arith
few_next (Pass number) at Stays = omega arith
few_next (Pass number) at Moves = omega arith
few_next (Fork by) at passing = omega arith
few_next (Jump by) at passing = omega arith
few_next (Back by) at passing = omega arith

module _ (d : Direction) (pieces : List Piece) (text : List ℕ) (begins : ℕ → Bool) (program : List Step) where
  abbrev ways : ℕ → ℕ → ℕ → Type 0
  ways = Passes d pieces text

  onward : (at i q j : ℕ) → IsAlive (Passes d pieces text) begins program at i
      → Goes (Passes d pieces text) program at i q j → IsAlive (Passes d pieces text) begins program q j
  onward at i q j a g = (suc a.0, (at, i, a.1, g))

  goes_near : (at i q j : ℕ) → Goes (Passes d pieces text) program at i q j → Near d (length text) i j
  goes_near at i q j g = does_near d pieces text g.step at i q j g.does

  goes_within : (at i q j : ℕ) → Goes (Passes d pieces text) program at i q j → at ≤ length program
  goes_within at i q j g = omega (arith, slice_get_within program at g.step g.stands)

  -- a walk that begins in the text stays there
  pub alive_within : ((b : ℕ) → begins b ≡ true → b ≤ length text) → (n at i : ℕ)
      → Comes (Passes d pieces text) begins program n at i → i ≤ length text
  alive_within begin zero at i c = begin i c.1
  alive_within begin (suc n) at i c = by_near (goes_near c.0 c.1 at i c.3) (alive_within begin n c.0 c.1 c.2)
    where
      by_near : Near d (length text) c.1 i → c.1 ≤ length text → i ≤ length text
      by_near (inl e) le = omega (arith, e, le)
      by_near (inr a) le = a.1 le

  module _ (place : ℕ) where
    -- a step that was taken before is dropped
    pub settling_dropped : (waiting taken next : List ℕ) (at : ℕ)
        → Settling d (Passes d pieces text) begins program place (waiting ++ at ∷ []) taken next → Has taken at
        → Settling d (Passes d pieces text) begins program place waiting taken next
    settling_dropped waiting taken next at s was = record {
      waits_by = λ q h. s.waits_by q (Contains-append_left waiting (at ∷ []) q h);
      taken_by = s.taken_by;
      comes_by = s.comes_by;
      begun = λ h. by_list 0 (s.begun h);
      before = λ b j q a after g le. by_list q (s.before b j q a after g le);
      closed = λ b q j h g le. by_place q j (s.closed b q j h g le);
    }
      where
        popped : (q : ℕ) → Contains waiting q ⊎ (at ≡ q) → Contains waiting q ⊎ Has taken q
        popped q (inl h) = inl h
        popped q (inr e) = inr (subst (λ (x : ℕ). Has taken x) e was)

        by_list : (q : ℕ) → Contains (waiting ++ at ∷ []) q ⊎ Has taken q → Contains waiting q ⊎ Has taken q
        by_list q (inl h) = popped q (Contains-push_cases waiting at q h)
        by_list q (inr h) = inr h

        by_place : (q j : ℕ) → ((j ≡ place) × (Contains (waiting ++ at ∷ []) q ⊎ Has taken q))
            ⊎ (After d place j × Contains next q) → ((j ≡ place) × (Contains waiting q ⊎ Has taken q))
            ⊎ (After d place j × Contains next q)
        by_place q j (inl h) = inl (h.0, by_list q h.1)
        by_place q j (inr h) = inr h

    -- a step that is taken
    pub settling_taken : (waiting taken next : List ℕ) (at : ℕ) (xs ys taken' : List ℕ)
        → Settling d (Passes d pieces text) begins program place (waiting ++ at ∷ []) taken next
        → Leads d (Passes d pieces text) program at place xs ys → (at ≤ length program → Has taken' at)
        → ((q : ℕ) → Has taken q → Has taken' q) → ((q : ℕ) → Has taken' q → (at ≡ q) ⊎ Has taken q)
        → Settling d (Passes d pieces text) begins program place (waiting ++ xs) taken' (next ++ ys)
    settling_taken waiting taken next at xs ys taken' s leads here kept none_else = record {
      waits_by = λ q h. from_waiting q (Contains-append_cases waiting xs q h);
      taken_by = λ q h. from_taken q (none_else q h);
      comes_by = λ q h. from_next q (Contains-append_cases next ys q h);
      begun = λ h. by_list 0 (omega arith) (s.begun h);
      before = λ b j q a after g le. by_list q le (s.before b j q a after g le);
      closed = λ b q j h g le. by_taken b q j g le (none_else b h);
    }
      where
        alive_here : IsAlive (Passes d pieces text) begins program at place
        alive_here = s.waits_by at (Contains-push waiting at)

        from_waiting : (q : ℕ) → Contains waiting q ⊎ Contains xs q
            → IsAlive (Passes d pieces text) begins program q place
        from_waiting q (inl h) = s.waits_by q (Contains-append_left waiting (at ∷ []) q h)
        from_waiting q (inr h) = onward at place q place alive_here (leads.same q h)

        from_taken : (q : ℕ) → (at ≡ q) ⊎ Has taken q → IsAlive (Passes d pieces text) begins program q place
        from_taken q (inl e) = subst (λ (x : ℕ). IsAlive (Passes d pieces text) begins program x place) e alive_here
        from_taken q (inr h) = s.taken_by q h

        from_next : (q : ℕ) → Contains next q ⊎ Contains ys q → (j : ℕ) × After d place j
            × IsAlive (Passes d pieces text) begins program q j
        from_next q (inl h) = s.comes_by q h
        from_next q (inr h) = let l = leads.later q h in (l.0, l.1, onward at place q l.0 alive_here l.2)

        popped : (q : ℕ) → q ≤ length program → Contains waiting q ⊎ (at ≡ q) → Contains (waiting ++ xs) q
            ⊎ Has taken' q
        popped q le (inl h) = inl (Contains-append_left waiting xs q h)
        popped q le (inr e) = inr (subst (λ (x : ℕ). Has taken' x) e (here (omega (arith, e, le))))

        by_list : (q : ℕ) → q ≤ length program → Contains (waiting ++ at ∷ []) q ⊎ Has taken q
            → Contains (waiting ++ xs) q ⊎ Has taken' q
        by_list q le (inl h) = popped q le (Contains-push_cases waiting at q h)
        by_list q le (inr h) = inr (kept q h)

        by_place : (q j : ℕ) → q ≤ length program → ((j ≡ place) × (Contains (waiting ++ at ∷ []) q ⊎ Has taken q))
            ⊎ (After d place j × Contains next q)
            → ((j ≡ place) × (Contains (waiting ++ xs) q ⊎ Has taken' q)) ⊎ (After d place j × Contains (next ++ ys) q)
        by_place q j le (inl h) = inl (h.0, by_list q le h.1)
        by_place q j le (inr h) = inr (h.0, Contains-append_left next ys q h.1)

        by_new : (q j : ℕ) → ((j ≡ place) × Contains xs q) ⊎ (After d place j × Contains ys q)
            → ((j ≡ place) × (Contains (waiting ++ xs) q ⊎ Has taken' q)) ⊎ (After d place j × Contains (next ++ ys) q)
        by_new q j (inl h) = inl (h.0, inl (Contains-append_right waiting xs q h.1))
        by_new q j (inr h) = inr (h.0, Contains-append_right next ys q h.1)

        by_taken : (b q j : ℕ) → Goes (Passes d pieces text) program b place q j → q ≤ length program → (at ≡ b)
            ⊎ Has taken b
            → ((j ≡ place) × (Contains (waiting ++ xs) q ⊎ Has taken' q)) ⊎ (After d place j × Contains (next ++ ys) q)
        by_taken b q j g le (inl e) =
            by_new q j (leads.all q j (subst (λ (x : ℕ). Goes (Passes d pieces text) program x place q j) (sym e) g) le)
        by_taken b q j g le (inr h) = by_place q j le (s.closed b q j h g le)

    -- where none waits any more
    pub settled_by : (waiting taken next : List ℕ) → waiting ≡ []
        → Settling d (Passes d pieces text) begins program place waiting taken next
        → Settled d (Passes d pieces text) begins program place waiting taken next
    settled_by waiting taken next empty s = record {
      empty = empty;
      taken_by = s.taken_by;
      alive = λ q a le. was_taken a.0 q a.1 le;
      comes_by = s.comes_by;
      comes = λ at j q a after g le. by_place j q after (s.closed at q j
          (was_taken a.0 at a.1 (goes_within at place q j g)) g le);
    }
      where
        none_waits : (q : ℕ) → Contains waiting q ⊎ Has taken q → Has taken q
        none_waits q (inl h) = absurd (contains_none q (subst (λ (w : List ℕ). Contains w q) empty h))
        none_waits q (inr h) = h

        by_same : (q : ℕ) → ((place ≡ place) × (Contains waiting q ⊎ Has taken q))
            ⊎ (After d place place × Contains next q) → Has taken q
        by_same q (inl h) = none_waits q h.1
        by_same q (inr h) = absurd (after_apart d place h.0)

        step_taken : (q before j : ℕ) → q ≤ length program → IsAlive (Passes d pieces text) begins program before j
            → Goes (Passes d pieces text) program before j q place → (place ≡ j → Has taken before)
            → Near d (length text) j place → Has taken q
        step_taken q before j le a g again (inl e) =
            by_same q (s.closed before q place (again e) (subst
            (λ (x : ℕ). Goes (Passes d pieces text) program before x q place) (sym e) g) le)
        step_taken q before j le a g again (inr near) = none_waits q (s.before before j q a near.0 g le)

        was_taken : (n q : ℕ) → Comes (Passes d pieces text) begins program n q place → q ≤ length program → Has taken q
        was_taken zero q c le = subst (λ (x : ℕ). Has taken x) (sym c.0) (none_waits 0 (s.begun c.1))
        was_taken (suc n) q c le =
            step_taken q c.0 c.1 le (n, c.2) c.3
            (λ e. was_taken n c.0 (subst (λ (x : ℕ). Comes (Passes d pieces text) begins program n c.0 x) (sym e) c.2)
            (goes_within c.0 c.1 q place c.3)) (goes_near c.0 c.1 q place c.3)

        by_place : (j q : ℕ) → After d place j → ((j ≡ place) × (Contains waiting q ⊎ Has taken q))
            ⊎ (After d place j × Contains next q) → Contains next q
        by_place j q after (inl h) = absurd (after_apart d place (subst (λ (x : ℕ). After d place x) h.0 after))
        by_place j q after (inr h) = h.1

    -- a walk begins at a place that is come to, or none does
    pub settling_begun : (waiting taken next : List ℕ) → begins place ≡ true
        → Arrives d (Passes d pieces text) begins program place waiting taken next
        → Settling d (Passes d pieces text) begins program place (waiting ++ 0 ∷ []) taken next
    settling_begun waiting taken next yes_ a = record {
      waits_by = λ q h. by_list q (Contains-push_cases waiting 0 q h);
      taken_by = λ q h. absurd (a.none_taken q h);
      comes_by = λ q h. absurd (contains_none q (subst (λ (w : List ℕ). Contains w q) a.none_next h));
      begun = λ h. inl (Contains-push waiting 0);
      before =
          λ at j q alive after g le. inl (Contains-append_left waiting (0 ∷ []) q (a.before at j q alive after g le));
      closed = λ at q j h g le. absurd (a.none_taken at h);
    }
      where
        by_list : (q : ℕ) → Contains waiting q ⊎ (0 ≡ q) → IsAlive (Passes d pieces text) begins program q place
        by_list q (inl h) = a.waits_by q h
        by_list q (inr e) = (zero, (sym e, yes_))

    pub settling_unbegun : (waiting taken next : List ℕ) → begins place ≡ false
        → Arrives d (Passes d pieces text) begins program place waiting taken next
        → Settling d (Passes d pieces text) begins program place waiting taken next
    settling_unbegun waiting taken next no_ a = record {
      waits_by = a.waits_by;
      taken_by = λ q h. absurd (a.none_taken q h);
      comes_by = λ q h. absurd (contains_none q (subst (λ (w : List ℕ). Contains w q) a.none_next h));
      begun = λ h. absurd (false≢true (sym no_ ∙ h));
      before = λ at j q alive after g le. inl (a.before at j q alive after g le);
      closed = λ at q j h g le. absurd (a.none_taken at h);
    }

    -- the next place is come to
    pub arrives_next : (place' : ℕ) (waiting taken next waiting' taken' next' : List ℕ) → After d place place'
        → Settled d (Passes d pieces text) begins program place waiting taken next
        → waiting' ≡ next → next' ≡ waiting → ((q : ℕ) → has taken' q ≡ false)
        → Arrives d (Passes d pieces text) begins program place' waiting' taken' next'
    arrives_next place' waiting taken next waiting' taken' next' after s e f none = record {
      waits_by = λ q h. let c = s.comes_by q (subst (λ (w : List ℕ). Contains w q) e h) in
          subst (λ (x : ℕ). IsAlive (Passes d pieces text) begins program q x) (after_is d place c.0 place' c.1 after)
          c.2;
      before = λ at j q a from g le.
          let same : j ≡ place = before_is d j place place' from after in
          subst (λ (w : List ℕ). Contains w q) (sym e) (s.comes at place' q
          (subst (λ (x : ℕ). IsAlive (Passes d pieces text) begins program at x) same a) after
          (subst (λ (x : ℕ). Goes (Passes d pieces text) program at x q place') same g) le);
      none_taken = λ q h. false≢true (sym (none q) ∙ h);
      none_next = f ∙ s.empty;
    }

  -- the first place: none comes from one before
  pub arrives_first : (place : ℕ) (waiting taken next : List ℕ)
      → ((at j : ℕ) → IsAlive (Passes d pieces text) begins program at j → After d j place → ⊥) → waiting ≡ []
      → next ≡ []
      → ((q : ℕ) → has taken q ≡ false) → Arrives d (Passes d pieces text) begins program place waiting taken next
  arrives_first place waiting taken next first e f none = record {
    waits_by = λ q h. absurd (contains_none q (subst (λ (w : List ℕ). Contains w q) e h));
    before = λ at j q a after g le. absurd (first at j a after);
    none_taken = λ q h. false≢true (sym (none q) ∙ h);
    none_next = f;
  }

-- what comes to a step from which a run leads to the end began somewhere from where a run leads there; and the other
-- way
module _ (passes : ℕ → ℕ → ℕ → Type 0) (begins : ℕ → Bool) (goal : ℕ) (program : List Step) where
  pub comes_runs : (n m q k : ℕ) → Comes passes begins program n q k → Runs passes goal program m q k → (b : ℕ)
      × (l : ℕ) × (begins b ≡ true) × Runs passes goal program l 0 b
  comes_runs zero m q k c r = (k, m, c.1, subst (λ (x : ℕ). Runs passes goal program m x k) c.0 r)
  comes_runs (suc n) m q k c r = comes_runs n (suc m) c.0 c.1 c.2 (q, k, c.3, r)

  pub runs_come : (n m q k : ℕ) → Runs passes goal program n q k → Comes passes begins program m q k → (l : ℕ)
      × Comes passes begins program l (length program) goal
  runs_come zero m q k r c = (
    m,
    subst (λ (x : ℕ). Comes passes begins program m x goal) r.0
        (subst (λ (x : ℕ). Comes passes begins program m q x) r.1 c),
  )
  runs_come (suc n) m q k r c = runs_come n (suc m) r.0 r.1 r.3 (q, k, c, r.2)

-- a step over no piece does the same whatever a piece does
pub other_step : (d : Direction) (pieces : List Piece) (text : List ℕ) (place : ℕ) (s : Step) (passing : Passing)
    → ((number : ℕ) → s ≡ Pass number → ⊥) → StepAs d pieces text place s passing
other_step d pieces text place (Pass number) passing apart = absurd (apart number refl)
other_step d pieces text place (Fork by) passing apart = tt
other_step d pieces text place (Jump by) passing apart = tt
other_step d pieces text place (Back by) passing apart = tt

-- where none waits, none is alive further on, if no walk begins there
module _ (pieces : List Piece) (text : List ℕ) (begins : ℕ → Bool) (program : List Step) (place : ℕ)
    (taken next : List ℕ) (a : Arrives Forward (Passes Forward pieces text) begins program place [] taken next) where
  none_by : (q j k n : ℕ) → ((m : ℕ) → place ≤ m → begins m ≡ true → ⊥) → place ≤ k → q ≤ length program → (before : ℕ)
      → Comes (Passes Forward pieces text) begins program n before j
      → Goes (Passes Forward pieces text) program before j q k
      → (place ≤ j → ⊥) → Near Forward (length text) j k → ⊥
  none_by q j k n none le within before c g again (inl e) = again (omega (arith, le, e))
  none_by q j k n none le within before c g again (inr near) = by_order (lt_or_le j place)
    where
      by_order : (j < place) ⊎ (place ≤ j) → ⊥
      by_order (inr later) = again later
      by_order (inl earlier) =
          let here : k ≡ place = omega (arith, near.0, earlier, le) in
          contains_none q (a.before before j q (n, c) (omega (arith, near.0, here))
          (subst (λ (x : ℕ). Goes (Passes Forward pieces text) program before j q x) here g) within)

  pub none_alive : ((m : ℕ) → place ≤ m → begins m ≡ true → ⊥) → (n q k : ℕ) → place ≤ k → q ≤ length program
      → Comes (Passes Forward pieces text) begins program n q k → ⊥
  none_alive none zero q k le within c = none k le c.1
  none_alive none (suc n) q k le within c =
      none_by q c.1 k n none le within c.0 c.2 c.3 (λ later. none_alive none n c.0 c.1 later
      (goes_within Forward pieces text begins program c.0 c.1 q k c.3) c.2)
      (goes_near Forward pieces text begins program c.0 c.1 q k c.3)
