-- Programs of parts walk as the parts do.
use Rattle.std.proofs.Common.{
  ◌≡◌,
  ℕ,
  zero,
  suc,
  ◌+◌,
  ◌-◌,
  ◌<◌,
  ◌≤◌,
  List,
  [],
  ◌∷◌,
  ◌++◌,
  ◌⊎◌,
  inl,
  inr,
  length,
  Some,
  None,
  Option,
  option_map,
  refl,
  sym,
  subst,
  ◌∙◌,
  arith,
  length-append,
  add-zero,
  add-one,
  append_assoc,
}
use Rattle.std.specs.Prelude.{slice_get}
use Rattle.std.proofs.lemmas.Option.{slice_get_within, same_Some}
use Rattle.es_pattern.specs.declared.step.Step.{Step}
use Rattle.es_pattern.specs.declared.step.Step.TheVariants.{Pass, Fork, Jump, Back}
use Rattle.es_pattern.specs.Program.{
  Does,
  Runs,
  Stands,
  Walks,
  choice_steps,
  maybe_steps,
  star_steps,
  plus_steps,
  copies,
  repetition_steps,
}
use Rattle.es_pattern.specs.Spans.{Chain, IsUpTo}

-- where two parts stand, each stands
stands_within : (program : List Step) (at : ℕ) (steps : List Step) → Stands program at steps
    → at + length steps ≤ length program
stands_within p at [] h = omega arith
stands_within p at (s ∷ steps) h = omega (arith, stands_within p (suc at) steps h.1)

stands_at : (p : List Step) (steps : List Step) (x y : ℕ) → x ≡ y → Stands p x steps → Stands p y steps
stands_at p steps x y e h = subst (λ (z : ℕ). Stands p z steps) e h

stands_first : (program : List Step) (at : ℕ) (a b : List Step) → Stands program at (a ++ b) → Stands program at a
stands_first p at [] b h = omega (arith, stands_within p at b h)
stands_first p at (s ∷ a) b h = (h.0, stands_first p (suc at) a b h.1)

stands_second : (program : List Step) (at : ℕ) (a b : List Step) → Stands program at (a ++ b)
    → Stands program (at + length a) b
stands_second p at [] b h = rw add-zero h
stands_second p at (s ∷ a) b h =
    stands_at p b (suc at + length a) (at + suc (length a)) (omega arith) (stands_second p (suc at) a b h.1)

module _ (passes : ℕ → ℕ → ℕ → Type 0) (goal : ℕ) where
  -- a step that stands is no end
  no_end : (program : List Step) (at : ℕ) (s : Step) → slice_get program at ≡ Some s → at ≡ length program → ⊥
  no_end p at s h e = omega (arith, slice_get_within p at s h)

  -- what a step that stands does first
  first_step : (program : List Step) (at : ℕ) (s : Step) → slice_get program at ≡ Some s → (i n : ℕ)
      → Runs passes goal program n at i
      → (k : ℕ) × (n ≡ suc k) × (next : ℕ) × (j : ℕ) × Does passes s at i next j × Runs passes goal program k next j
  first_step p at s h i zero r = absurd (no_end p at s h r.0)
  first_step p at s h i (suc k) r =
      let goes = r.2 in
      let e : goes.step ≡ s = same_Some goes.step s (sym goes.stands ∙ h) in
      (k, refl, r.0, r.1, subst (λ (t : Step). Does passes t at i r.0 r.1) e goes.does, r.3)

  runs_at : (p : List Step) (n i x y : ℕ) → x ≡ y → Runs passes goal p n x i → Runs passes goal p n y i
  runs_at p n i x y e r = subst (λ (z : ℕ). Runs passes goal p n z i) e r

  runs_from : (p : List Step) (n x i j : ℕ) → i ≡ j → Runs passes goal p n x i → Runs passes goal p n x j
  runs_from p n x i j e r = subst (λ (z : ℕ). Runs passes goal p n x z) e r

  -- one step and a run from there
  longer : (p : List Step) (at : ℕ) (s : Step) → slice_get p at ≡ Some s → (i next j n : ℕ) → Does passes s at i next j
      → Runs passes goal p n next j → (m : ℕ) × Runs passes goal p m at i
  longer p at s h i next j n d r = (suc n, (next, j, record { step = s; stands = h; does = d }, r))

  pub walks_nothing : Walks passes goal [] (λ i j. i ≡ j)
  walks_nothing = record {
    enters = λ p at h i j n e r. (n, runs_at p n i (at + 0) at (add-zero at) (runs_from p n (at + 0) j i (sym e) r));
    leaves = λ p at h i n r. (i, n, refl, omega arith, runs_at p n i at (at + 0) (sym (add-zero at)) r);
  }

  pub walks_piece : (number : ℕ) → Walks passes goal (Pass number ∷ []) (passes number)
  walks_piece number = record {
    enters = λ p at h i j n e r. longer p at (Pass number) h.0 i (suc at) j n (refl, e)
        (runs_at p n j (at + 1) (suc at) (omega arith) r);
    leaves = λ p at h i n r.
        let f = first_step p at (Pass number) h.0 i n r in
        (f.3, f.0, f.4.1, omega (arith, f.1), runs_at p f.0 f.3 f.2 (at + 1) (omega (arith, f.4.0)) f.5);
  }

  module _ (a b : List Step) (A B : ℕ → ℕ → Type 0) (wa : Walks passes goal a A) (wb : Walks passes goal b B) where
    pub walks_sequence : Walks passes goal (a ++ b) (λ i j. (x : ℕ) × A i x × B x j)
    walks_sequence = record {
      enters = λ p at h i j n e r.
          let within_b = wb.enters p (at + length a) (stands_second p at a b h) e.0 j n e.2
          (runs_at p n j (at + length (a ++ b)) (at + length a + length b) (omega (arith, length-append a b)) r) in
          wa.enters p at (stands_first p at a b h) i e.0 within_b.0 e.1 within_b.1;
      leaves = λ p at h i n r.
          let after_a = wa.leaves p at (stands_first p at a b h) i n r in
          let after_b = wb.leaves p (at + length a) (stands_second p at a b h) after_a.0 after_a.1 after_a.4 in (
            after_b.0,
            after_b.1,
            (after_a.0, after_a.2, after_b.2),
            omega (arith, after_a.3, after_b.3),
            runs_at p after_b.1 after_b.0 (at + length a + length b) (at + length (a ++ b))
                (omega (arith, length-append a b)) after_b.4,
          );
    }

    stands_one : (p : List Step) (at : ℕ) → Stands p at (choice_steps a b) → Stands p (suc at) a
    stands_one p at h = stands_first p (suc at) a (Jump (length b + 1) ∷ b) h.1

    stands_jump : (p : List Step) (at : ℕ) → Stands p at (choice_steps a b)
        → slice_get p (suc at + length a) ≡ Some (Jump (length b + 1))
    stands_jump p at h = (stands_second p (suc at) a (Jump (length b + 1) ∷ b) h.1).0

    stands_other : (p : List Step) (at : ℕ) → Stands p at (choice_steps a b) → Stands p (at + (length a + 2)) b
    stands_other p at h = stands_at p b (suc (suc at + length a)) (at + (length a + 2)) (omega arith)
        (stands_second p (suc at) a (Jump (length b + 1) ∷ b) h.1).1

    length_either : length (choice_steps a b) ≡ length a + length b + 2
    length_either = omega (arith, length-append a (Jump (length b + 1) ∷ b))

    enters_either : (p : List Step) (at : ℕ) → Stands p at (choice_steps a b) → (i j n : ℕ) → A i j ⊎ B i j
        → Runs passes goal p n (at + length (choice_steps a b)) j → (m : ℕ) × Runs passes goal p m at i
    enters_either p at h i j n (inl e) r =
        let jumped = longer p (suc at + length a) (Jump (length b + 1)) (stands_jump p at h) j
        (at + length (choice_steps a b)) j n (omega (arith, length_either), refl) r in
        let entered = wa.enters p (suc at) (stands_one p at h) i j jumped.0 e jumped.1 in
        longer p at (Fork (length a + 2)) h.0 i (suc at) i entered.0 (inl refl, refl) entered.1
    enters_either p at h i j n (inr e) r =
        let entered = wb.enters p (at + (length a + 2)) (stands_other p at h) i j n e
        (runs_at p n j (at + length (choice_steps a b)) (at + (length a + 2) + length b)
        (omega (arith, length_either)) r) in
        longer p at (Fork (length a + 2)) h.0 i (at + (length a + 2)) i entered.0 (inr refl, refl) entered.1

    abbrev Left : List Step → ℕ → ℕ → ℕ → Type 0
    Left p at i n =
        (j : ℕ) × (m : ℕ) × (A i j ⊎ B i j) × (m ≤ n) × Runs passes goal p m (at + length (choice_steps a b)) j

    leaves_by : (p : List Step) (at : ℕ) → Stands p at (choice_steps a b) → (i next j k : ℕ)
        → ((next ≡ suc at) ⊎ (next ≡ at + (length a + 2))) → j ≡ i → Runs passes goal p k next j → Left p at i (suc k)
    leaves_by p at h i next j k (inl e) same r =
        let after_a = wa.leaves p (suc at) (stands_one p at h) i k
        (runs_from p k (suc at) j i same (runs_at p k j next (suc at) e r)) in
        let jump = first_step p (suc at + length a) (Jump (length b + 1)) (stands_jump p at h) after_a.0 after_a.1
        after_a.4 in (
          after_a.0,
          jump.0,
          inl after_a.2,
          omega (arith, after_a.3, jump.1),
          runs_from p jump.0 (at + length (choice_steps a b)) jump.3 after_a.0 jump.4.1
              (runs_at p jump.0 jump.3 jump.2 (at + length (choice_steps a b)) (omega (arith, jump.4.0, length_either))
              jump.5),
        )
    leaves_by p at h i next j k (inr e) same r =
        let after_b = wb.leaves p (at + (length a + 2)) (stands_other p at h) i k
        (runs_from p k (at + (length a + 2)) j i same (runs_at p k j next (at + (length a + 2)) e r)) in (
          after_b.0,
          after_b.1,
          inr after_b.2,
          omega (arith, after_b.3),
          runs_at p after_b.1 after_b.0 (at + (length a + 2) + length b) (at + length (choice_steps a b))
              (omega (arith, length_either)) after_b.4,
        )

    shorter : (p : List Step) (at i k n : ℕ) → n ≡ suc k → Left p at i (suc k) → Left p at i n
    shorter p at i k n e l = (l.0, l.1, l.2, omega (arith, l.3), l.4)

    pub walks_choice : Walks passes goal (choice_steps a b) (λ i j. A i j ⊎ B i j)
    walks_choice = record {
      enters = enters_either;
      leaves = λ p at h i n r.
          let f = first_step p at (Fork (length a + 2)) h.0 i n r in
          shorter p at i f.0 n f.1 (leaves_by p at h i f.2 f.3 f.0 f.4.0 f.4.1 f.5);
    }

  module _ (a : List Step) (A : ℕ → ℕ → Type 0) (wa : Walks passes goal a A) where
    -- no time or once
    enters_maybe : (p : List Step) (at : ℕ) → Stands p at (maybe_steps a) → (i j n : ℕ) → (i ≡ j) ⊎ A i j
        → Runs passes goal p n (at + length (maybe_steps a)) j → (m : ℕ) × Runs passes goal p m at i
    enters_maybe p at h i j n (inl e) r = longer p at (Fork (length a + 1)) h.0 i (at + (length a + 1)) j n
        (inr refl, sym e) (runs_at p n j (at + length (maybe_steps a)) (at + (length a + 1)) (omega arith) r)
    enters_maybe p at h i j n (inr e) r =
        let entered = wa.enters p (suc at) h.1 i j n e (runs_at p n j (at + length (maybe_steps a)) (suc at + length a)
        (omega arith) r) in
        longer p at (Fork (length a + 1)) h.0 i (suc at) i entered.0 (inl refl, refl) entered.1

    abbrev LeftMaybe : List Step → ℕ → ℕ → ℕ → Type 0
    LeftMaybe p at i n =
        (j : ℕ) × (m : ℕ) × ((i ≡ j) ⊎ A i j) × (m ≤ n) × Runs passes goal p m (at + length (maybe_steps a)) j

    leaves_maybe_by : (p : List Step) (at : ℕ) → Stands p at (maybe_steps a) → (i next j k : ℕ)
        → ((next ≡ suc at) ⊎ (next ≡ at + (length a + 1))) → j ≡ i → Runs passes goal p k next j
        → LeftMaybe p at i (suc k)
    leaves_maybe_by p at h i next j k (inl e) same r =
        let after = wa.leaves p (suc at) h.1 i k (runs_from p k (suc at) j i same (runs_at p k j next (suc at) e r)) in (
          after.0,
          after.1,
          inr after.2,
          omega (arith, after.3),
          runs_at p after.1 after.0 (suc at + length a) (at + length (maybe_steps a)) (omega arith) after.4,
        )
    leaves_maybe_by p at h i next j k (inr e) same r =
        (j, k, inl (sym same), omega arith, runs_at p k j next (at + length (maybe_steps a)) (omega (arith, e)) r)

    pub walks_maybe : Walks passes goal (maybe_steps a) (λ i j. (i ≡ j) ⊎ A i j)
    walks_maybe = record {
      enters = enters_maybe;
      leaves = λ p at h i n r.
          let f = first_step p at (Fork (length a + 1)) h.0 i n r in
          let l = leaves_maybe_by p at h i f.2 f.3 f.0 f.4.0 f.4.1 f.5 in
          (l.0, l.1, l.2, omega (arith, l.3, f.1), l.4);
    }

    -- any number of times
    abbrev AnyChain : ℕ → ℕ → Type 0
    AnyChain i j = (n : ℕ) × Chain A n i j

    stands_turn : (p : List Step) (at : ℕ) → Stands p at (star_steps a) → Stands p (suc at) a
    stands_turn p at h = stands_first p (suc at) a (Back (length a + 1) ∷ []) h.1

    stands_back : (p : List Step) (at : ℕ) → Stands p at (star_steps a)
        → slice_get p (suc at + length a) ≡ Some (Back (length a + 1))
    stands_back p at h = (stands_second p (suc at) a (Back (length a + 1) ∷ []) h.1).0

    length_star : length (star_steps a) ≡ length a + 2
    length_star = omega (arith, length-append a (Back (length a + 1) ∷ []))

    enters_star : (p : List Step) (at : ℕ) → Stands p at (star_steps a) → (c i j n : ℕ) → Chain A c i j
        → Runs passes goal p n (at + length (star_steps a)) j → (m : ℕ) × Runs passes goal p m at i
    enters_star p at h zero i j n e r = longer p at (Fork (length a + 2)) h.0 i (at + (length a + 2)) j n
        (inr refl, sym e) (runs_at p n j (at + length (star_steps a)) (at + (length a + 2)) (omega (arith, length_star))
        r)
    enters_star p at h (suc c) i j n e r =
        let later = enters_star p at h c e.0 j n e.2 r in
        let back = longer p (suc at + length a) (Back (length a + 1)) (stands_back p at h) e.0 at e.0 later.0
        (omega arith, refl) later.1 in
        let entered = wa.enters p (suc at) (stands_turn p at h) i e.0 back.0 e.1 back.1 in
        longer p at (Fork (length a + 2)) h.0 i (suc at) i entered.0 (inl refl, refl) entered.1

    abbrev LeftStar : List Step → ℕ → ℕ → ℕ → Type 0
    LeftStar p at i n = (j : ℕ) × (m : ℕ) × AnyChain i j × (m ≤ n) × Runs passes goal p m (at + length (star_steps a)) j

    one_more : (p : List Step) (at i x n k : ℕ) → A i x → k ≤ n → LeftStar p at x k → LeftStar p at i n
    one_more p at i x n k e le l = (l.0, l.1, (suc l.2.0, (x, e, l.2.1)), omega (arith, l.3), l.4)

    leaves_star_by : (bound : ℕ) (p : List Step) (at : ℕ) → Stands p at (star_steps a)
        → ((i n : ℕ) → n ≤ bound → Runs passes goal p n at i → LeftStar p at i n)
        → (i next j k : ℕ) → k ≤ bound → ((next ≡ suc at) ⊎ (next ≡ at + (length a + 2))) → j ≡ i
        → Runs passes goal p k next j → LeftStar p at i (suc k)
    leaves_star_by bound p at h again i next j k le (inl e) same r =
        let after = wa.leaves p (suc at) (stands_turn p at h) i k
        (runs_from p k (suc at) j i same (runs_at p k j next (suc at) e r)) in
        let back =
        first_step p (suc at + length a) (Back (length a + 1)) (stands_back p at h) after.0 after.1 after.4 in
        let later = again after.0 back.0 (omega (arith, after.3, back.1))
        (runs_from p back.0 at back.3 after.0 back.4.1 (runs_at p back.0 back.3 back.2 at (omega (arith, back.4.0))
        back.5)) in
        one_more p at i after.0 (suc k) back.0 after.2 (omega (arith, after.3, back.1)) later
    leaves_star_by bound p at h again i next j k le (inr e) same r = (
      j,
      k,
      (zero, sym same),
      omega arith,
      runs_at p k j next (at + length (star_steps a)) (omega (arith, e, length_star)) r,
    )

    -- a run of at most so many steps
    leaves_star : (bound : ℕ) (p : List Step) (at : ℕ) → Stands p at (star_steps a) → (i n : ℕ) → n ≤ bound
        → Runs passes goal p n at i → LeftStar p at i n
    leaves_star zero p at h i n le r =
        let f = first_step p at (Fork (length a + 2)) h.0 i n r in absurd (omega (arith, f.1))
    leaves_star (suc bound) p at h i n le r =
        let f = first_step p at (Fork (length a + 2)) h.0 i n r in
        let l =
        leaves_star_by bound p at h (leaves_star bound p at h) i f.2 f.3 f.0 (omega (arith, f.1)) f.4.0 f.4.1 f.5 in
        (l.0, l.1, l.2, omega (arith, l.3, f.1), l.4)

    pub walks_star : Walks passes goal (star_steps a) AnyChain
    walks_star = record {
      enters = λ p at h i j n e r. enters_star p at h e.0 i j n e.1 r;
      leaves = λ p at h i n r. leaves_star n p at h i n (omega arith) r;
    }

    -- once or more
    abbrev SomeChain : ℕ → ℕ → Type 0
    SomeChain i j = (n : ℕ) × Chain A (suc n) i j

    stands_once : (p : List Step) (at : ℕ) → Stands p at (plus_steps a) → Stands p at a
    stands_once p at h = stands_first p at a (Fork 2 ∷ Back (length a + 1) ∷ []) h

    stands_fork : (p : List Step) (at : ℕ) → Stands p at (plus_steps a) → slice_get p (at + length a) ≡ Some (Fork 2)
    stands_fork p at h = (stands_second p at a (Fork 2 ∷ Back (length a + 1) ∷ []) h).0

    stands_return : (p : List Step) (at : ℕ) → Stands p at (plus_steps a)
        → slice_get p (suc (at + length a)) ≡ Some (Back (length a + 1))
    stands_return p at h = (stands_second p at a (Fork 2 ∷ Back (length a + 1) ∷ []) h).1.0

    length_plus : length (plus_steps a) ≡ length a + 2
    length_plus = omega (arith, length-append a (Fork 2 ∷ Back (length a + 1) ∷ []))

    enters_plus : (p : List Step) (at : ℕ) → Stands p at (plus_steps a) → (c i j n : ℕ) → Chain A (suc c) i j
        → Runs passes goal p n (at + length (plus_steps a)) j → (m : ℕ) × Runs passes goal p m at i
    enters_plus p at h zero i j n e r =
        let out = longer p (at + length a) (Fork 2) (stands_fork p at h) j (at + length (plus_steps a)) j n
        (inr (omega (arith, length_plus)), refl) r in
        wa.enters p at (stands_once p at h) i j out.0 (subst (λ (y : ℕ). A i y) e.2 e.1) out.1
    enters_plus p at h (suc c) i j n e r =
        let later = enters_plus p at h c e.0 j n e.2 r in
        let back = longer p (suc (at + length a)) (Back (length a + 1)) (stands_return p at h) e.0 at e.0 later.0
        (omega arith, refl) later.1 in
        let again = longer p (at + length a) (Fork 2) (stands_fork p at h) e.0 (suc (at + length a)) e.0 back.0
        (inl refl, refl) back.1 in
        wa.enters p at (stands_once p at h) i e.0 again.0 e.1 again.1

    abbrev LeftPlus : List Step → ℕ → ℕ → ℕ → Type 0
    LeftPlus p at i n =
        (j : ℕ) × (m : ℕ) × SomeChain i j × (m ≤ n) × Runs passes goal p m (at + length (plus_steps a)) j

    leaves_plus_by : (bound : ℕ) (p : List Step) (at : ℕ) → Stands p at (plus_steps a)
        → ((i n : ℕ) → n ≤ bound → Runs passes goal p n at i → LeftPlus p at i n)
        → (i x next j n k : ℕ) → A i x → k < n → n ≤ suc bound
        → ((next ≡ suc (at + length a)) ⊎ (next ≡ at + length a + 2)) → j ≡ x → Runs passes goal p k next j
        → LeftPlus p at i n
    leaves_plus_by bound p at h again i x next j n k e lt le (inl at_back) same r =
        let back = first_step p (suc (at + length a)) (Back (length a + 1)) (stands_return p at h) x k
        (runs_from p k (suc (at + length a)) j x same (runs_at p k j next (suc (at + length a)) at_back r)) in
        let l = again x back.0 (omega (arith, back.1, lt, le))
        (runs_from p back.0 at back.3 x back.4.1 (runs_at p back.0 back.3 back.2 at (omega (arith, back.4.0))
        back.5)) in
        (l.0, l.1, (suc l.2.0, (x, e, l.2.1)), omega (arith, l.3, back.1, lt), l.4)
    leaves_plus_by bound p at h again i x next j n k e lt le (inr at_end) same r = (
      j,
      k,
      (zero, (x, e, sym same)),
      omega (arith, lt),
      runs_at p k j next (at + length (plus_steps a)) (omega (arith, at_end, length_plus)) r,
    )

    -- a run of at most so many steps
    leaves_plus : (bound : ℕ) (p : List Step) (at : ℕ) → Stands p at (plus_steps a) → (i n : ℕ) → n ≤ bound
        → Runs passes goal p n at i → LeftPlus p at i n
    leaves_plus zero p at h i n le r =
        let after = wa.leaves p at (stands_once p at h) i n r in
        let f = first_step p (at + length a) (Fork 2) (stands_fork p at h) after.0 after.1 after.4 in
        absurd (omega (arith, f.1, after.3, le))
    leaves_plus (suc bound) p at h i n le r =
        let after = wa.leaves p at (stands_once p at h) i n r in
        let f = first_step p (at + length a) (Fork 2) (stands_fork p at h) after.0 after.1 after.4 in
        leaves_plus_by bound p at h (leaves_plus bound p at h) i after.0 f.2 f.3 n f.0 after.2
        (omega (arith, f.1, after.3)) le f.4.0 f.4.1 f.5

    pub walks_plus : Walks passes goal (plus_steps a) SomeChain
    walks_plus = record {
      enters = λ p at h i j n e r. enters_plus p at h e.0 i j n e.1 r;
      leaves = λ p at h i n r. leaves_plus n p at h i n (omega arith) r;
    }

module _ (R : ℕ → ℕ → Type 0) where
  -- a chain with a link more at its end
  pub chain_more : (n i x j : ℕ) → Chain R n i x → R x j → Chain R (suc n) i j
  chain_more zero i x j e r = (j, subst (λ (y : ℕ). R y j) (sym e) r, refl)
  chain_more (suc n) i x j c r = (c.0, c.1, chain_more n c.0 x j c.2 r)

  pub chain_last : (n i j : ℕ) → Chain R (suc n) i j → (x : ℕ) × Chain R n i x × R x j
  chain_last zero i j c = (i, refl, subst (λ (y : ℕ). R i y) c.2 c.1)
  chain_last (suc n) i j c = let l = chain_last n c.0 j c.2 in (l.0, (c.0, c.1, l.1), l.2)

  counted : (k l i j : ℕ) → k ≡ l → Chain R k i j → Chain R l i j
  counted k l i j e c = subst (λ (m : ℕ). Chain R m i j) e c

  -- two chains in a row
  pub chain_joined : (m n i x j : ℕ) → Chain R m i x → Chain R n x j → Chain R (m + n) i j
  chain_joined zero n i x j e d = counted n (0 + n) i j (omega arith) (subst (λ (y : ℕ). Chain R n y j) (sym e) d)
  chain_joined (suc m) n i x j c d =
      counted (suc (m + n)) (suc m + n) i j (omega arith) (c.0, c.1, chain_joined m n c.0 x j c.2 d)

  pub chain_split : (m n i j : ℕ) → Chain R (m + n) i j → (x : ℕ) × Chain R m i x × Chain R n x j
  chain_split zero n i j c = (i, refl, counted (0 + n) n i j (omega arith) c)
  chain_split (suc m) n i j c =
      let d = counted (suc m + n) (suc (m + n)) i j (omega arith) c in
      let l = chain_split m n d.0 j d.2 in
      (l.0, (d.0, d.1, l.1), l.2)

  abbrev Maybe : ℕ → ℕ → Type 0
  Maybe i j = (i ≡ j) ⊎ R i j

  -- a chain of links that may be left out
  pub chain_from_maybe : (n i j : ℕ) → Chain Maybe n i j → (c : ℕ) × (c ≤ n) × Chain R c i j
  chain_from_maybe zero i j e = (0, omega arith, e)
  chain_from_maybe (suc n) i j l = by_link n i l.0 j l.1 (chain_from_maybe n l.0 j l.2)
    where
      by_link : (n i x j : ℕ) → Maybe i x → (c : ℕ) × (c ≤ n) × Chain R c x j → (c : ℕ) × (c ≤ suc n) × Chain R c i j
      by_link n i x j (inl e) l = (l.0, omega (arith, l.1), subst (λ (y : ℕ). Chain R l.0 y j) (sym e) l.2)
      by_link n i x j (inr r) l = (suc l.0, omega (arith, l.1), (x, r, l.2))

  left_out : (n i : ℕ) → Chain Maybe n i i
  left_out zero i = refl
  left_out (suc n) i = (i, inl refl, left_out n i)

  pub chain_to_maybe : (n c i j : ℕ) → c ≤ n → Chain R c i j → Chain Maybe n i j
  chain_to_maybe n zero i j le e = subst (λ (y : ℕ). Chain Maybe n i y) e (left_out n i)
  chain_to_maybe zero (suc c) i j le l = absurd (omega (arith, le))
  chain_to_maybe (suc n) (suc c) i j le l = (l.0, inr l.1, chain_to_maybe n c l.0 j (omega (arith, le)) l.2)

module _ (passes : ℕ → ℕ → ℕ → Type 0) (goal : ℕ) where
  -- steps that walk as one relation says walk as another does that says the same
  pub walks_same : (a : List Step) (A B : ℕ → ℕ → Type 0) → Walks passes goal a A → ((i j : ℕ) → A i j → B i j)
      → ((i j : ℕ) → B i j → A i j) → Walks passes goal a B
  walks_same a A B w to from = record {
    enters = λ p at h i j n e r. w.enters p at h i j n (from i j e) r;
    leaves = λ p at h i n r. let l = w.leaves p at h i n r in (l.0, l.1, to i l.0 l.2, l.3, l.4);
  }

  module _ (a : List Step) (A : ℕ → ℕ → Type 0) (wa : Walks passes goal a A) where
    pub walks_copies : (n : ℕ) → Walks passes goal (copies n a) (Chain A n)
    walks_copies zero = walks_nothing passes goal
    walks_copies (suc n) = walks_same (copies n a ++ a) (λ i j. (x : ℕ) × Chain A n i x × A x j) (Chain A (suc n))
        (walks_sequence passes goal (copies n a) a (Chain A n) A (walks_copies n) wa)
        (λ i j l. chain_more A n i l.0 j l.1 l.2) (λ i j c. chain_last A n i j c)

  module _ (a : List Step) (A : ℕ → ℕ → Type 0) (wa : Walks passes goal a A) where
    abbrev Times : ℕ → Option ℕ → ℕ → ℕ → Type 0
    Times least more i j = (n : ℕ) × (least ≤ n) × IsUpTo (option_map (λ m. least + m) more) n × Chain A n i j

    -- at least so many times
    pub walks_repetition : (least : ℕ) (more : Option ℕ)
        → Walks passes goal (repetition_steps least more a) (Times least more)
    walks_repetition least (Some more) =
        walks_same (copies least a ++ copies more (maybe_steps a))
        (λ i j. (x : ℕ) × Chain A least i x × Chain (λ i j. (i ≡ j) ⊎ A i j) more x j) (Times least (Some more))
        (walks_sequence passes goal (copies least a) (copies more (maybe_steps a)) (Chain A least)
        (Chain (λ i j. (i ≡ j) ⊎ A i j) more) (walks_copies a A wa least)
        (walks_copies (maybe_steps a) (λ i j. (i ≡ j) ⊎ A i j) (walks_maybe passes goal a A wa) more))
        (λ i j l. let c = chain_from_maybe A more l.0 j l.2 in
        (least + c.0, omega arith, omega (arith, c.1), chain_joined A least c.0 i l.0 j l.1 c.2))
        (λ i j c.
        let e : c.0 ≡ least + (c.0 - least) = omega (arith, c.1) in
        let s = chain_split A least (c.0 - least) i j (subst (λ (k : ℕ). Chain A k i j) e c.3) in
        (s.0, s.1, chain_to_maybe A more (c.0 - least) s.0 j (omega (arith, c.1, c.2)) s.2))
    walks_repetition zero None = walks_same (star_steps a) (λ i j. (n : ℕ) × Chain A n i j) (Times zero None)
        (walks_star passes goal a A wa) (λ i j c. (c.0, omega arith, tt, c.1)) (λ i j c. (c.0, c.3))
    walks_repetition (suc before) None =
        walks_same (copies before a ++ plus_steps a) (λ i j. (x : ℕ) × Chain A before i x
        × ((n : ℕ) × Chain A (suc n) x j)) (Times (suc before) None)
        (walks_sequence passes goal (copies before a) (plus_steps a) (Chain A before)
        (λ i j. (n : ℕ) × Chain A (suc n) i j) (walks_copies a A wa before) (walks_plus passes goal a A wa))
        (λ i j l. (before + suc l.2.0, omega arith, tt, chain_joined A before (suc l.2.0) i l.0 j l.1 l.2.1))
        (λ i j c.
        let e : c.0 ≡ before + suc (c.0 - suc before) = omega (arith, c.1) in
        let s = chain_split A before (suc (c.0 - suc before)) i j (subst (λ (k : ℕ). Chain A k i j) e c.3) in
        (s.0, s.1, (c.0 - suc before, s.2)))

-- a chain, from its end to its start
pub chain_mirrored : (R : ℕ → ℕ → Type 0) (n i j : ℕ) → Chain (λ x y. R y x) n i j → Chain R n j i
chain_mirrored R zero i j e = sym e
chain_mirrored R (suc n) i j c = chain_more R n j c.0 i (chain_mirrored R n c.0 j c.2) c.1

-- one copy more
pub copies_more : (steps : List Step) (n : ℕ) (a : List Step) → steps ++ copies n a ++ a ≡ steps ++ copies (n + 1) a
copies_more steps n a = rw add-one (append_assoc steps (copies n a) a)
