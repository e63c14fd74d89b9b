-- As many parts as fit, one after the other.
use Rattle.std.proofs.Common.{
  ◌≡◌,
  ◌≢◌,
  ◌==◌,
  ◌⊎◌,
  ◌<◌,
  ◌≤◌,
  ℕ,
  zero,
  suc,
  true,
  false,
  cond,
  List,
  [],
  ◌∷◌,
  ◌++◌,
  length,
  refl,
  sym,
  ap,
  ◌∙◌,
  Option,
  Some,
  None,
  arith,
  inl,
  inr,
  append_assoc,
  append-nil,
}
use Rattle.std.proofs.lemmas.Bool.Decides.{eqb_tells}
use Rattle.yarn_lock_parser.specs.Front.{IsRest, up_to, every, some}
use Rattle.yarn_lock_parser.proofs.Rests.{IsLater, itself, behind, tested}

-- what follows a part is shorter than the text
abbrev pub Shortens : {A : Type 0} → (List ℕ → Option (A × List ℕ)) → Type 0
Shortens {A} part = (t : List ℕ) (x : A × List ℕ) → part t ≡ Some x → length x.1 < length t

abbrev pub listed : {A : Type 0} → List A → List ℕ → List A × List ℕ
listed xs t = (xs, t)

abbrev pub with_first : {A : Type 0} → A → List A × List ℕ → List A × List ℕ
with_first x read = (x ∷ read.0, read.1)

pub up_to-none : {A : Type 0} (part : List ℕ → Option (A × List ℕ)) (n : ℕ) (t : List ℕ) → part t ≡ None
    → up_to part n t ≡ listed [] t
up_to-none part zero t e = refl
up_to-none part (suc n) t e = rw (e, up_to) refl

pub up_to-some : {A : Type 0} (part : List ℕ → Option (A × List ℕ)) (n : ℕ) (t : List ℕ) (x : A × List ℕ)
    → part t ≡ Some x → up_to part (suc n) t ≡ with_first x.0 (up_to part n x.1)
up_to-some part n t x e = rw (e, up_to) refl

nothing_left : {A : Type 0} (part : List ℕ → Option (A × List ℕ)) → Shortens part → (t : List ℕ) → length t ≤ 0
    → (o : Option (A × List ℕ)) → part t ≡ o → part t ≡ None
nothing_left part short t h None e = e
nothing_left part short t h (Some x) e = absurd (omega (arith, short t x e))

one_more : {A : Type 0} (part : List ℕ → Option (A × List ℕ)) (n m : ℕ) (t : List ℕ) (o : Option (A × List ℕ))
    → part t ≡ o → ((x : A × List ℕ) → part t ≡ Some x → up_to part n x.1 ≡ up_to part m x.1)
    → up_to part (suc n) t ≡ up_to part (suc m) t
one_more part n m t None e h = up_to-none part (suc n) t e ∙ sym (up_to-none part (suc m) t e)
one_more part n m t (Some x) e h = up_to-some part n t x e ∙ ap (with_first x.0) (h x e) ∙ sym (up_to-some part m t x e)

-- more than the text's length makes no difference
up_to-enough : {A : Type 0} (part : List ℕ → Option (A × List ℕ)) → Shortens part → (n m : ℕ) (t : List ℕ)
    → length t ≤ n → length t ≤ m → up_to part n t ≡ up_to part m t
up_to-enough part short zero zero t h k = refl
up_to-enough part short zero (suc m) t h k = sym (up_to-none part (suc m) t (nothing_left part short t h (part t) refl))
up_to-enough part short (suc n) zero t h k = up_to-none part (suc n) t (nothing_left part short t k (part t) refl)
up_to-enough part short (suc n) (suc m) t h k =
    one_more part n m t (part t) refl (λ x e. up_to-enough part short n m x.1 (omega (arith, short t x e))
    (omega (arith, short t x e)))

pub every-none : {A : Type 0} (part : List ℕ → Option (A × List ℕ)) (t : List ℕ) → part t ≡ None
    → every part t ≡ listed [] t
unfolding every
every-none part t e = up_to-none part (length t) t e

pub every-more : {A : Type 0} (part : List ℕ → Option (A × List ℕ)) → Shortens part → (t : List ℕ) (x : A × List ℕ)
    → part t ≡ Some x → every part t ≡ with_first x.0 (every part x.1)
unfolding every
every-more part short t x e = by_length (length t) refl
  where
    by_length : (n : ℕ) → length t ≡ n → up_to part n t ≡ with_first x.0 (up_to part (length x.1) x.1)
    by_length zero h = absurd (omega (arith, short t x e))
    by_length (suc n) h = up_to-some part n t x e
        ∙ ap (with_first x.0) (up_to-enough part short n (length x.1) x.1 (omega (arith, short t x e)) (omega arith))

-- ---- one part or more

-- what was read already stands before what is read
abbrev pub onto : {A : Type 0} → List A → List A × List ℕ → List A × List ℕ
onto xs read = (xs ++ read.0, read.1)

pub onto-push : {A : Type 0} (xs : List A) (x : A) (read : List A × List ℕ)
    → onto (xs ++ x ∷ []) read ≡ onto xs (with_first x read)
onto-push xs x read = ap (λ ys. listed ys read.1) (append_assoc xs (x ∷ []) read.0)

pub onto-end : {A : Type 0} (xs : List A) (t : List ℕ) → onto xs (listed [] t) ≡ listed xs t
onto-end xs t = ap (λ ys. listed ys t) (append-nil xs)

-- ---- what follows

abbrev pub Leaves : {A : Type 0} → (List ℕ → Option (A × List ℕ)) → Type 0
Leaves {A} part = (t : List ℕ) (x : A × List ℕ) → part t ≡ Some x → IsLater t x.1

by_part : {A : Type 0} (part : List ℕ → Option (A × List ℕ)) (n : ℕ) (t : List ℕ) (o : Option (A × List ℕ)) → part t ≡ o
    → ((x : A × List ℕ) → part t ≡ Some x → IsRest t (up_to part n x.1).1) → IsRest t (up_to part (suc n) t).1
by_part part n t None e h = rw (up_to-none part (suc n) t e) (itself t)
by_part part n t (Some x) e h = rw (up_to-some part n t x e) (h x e)

up_to-rest : {A : Type 0} (part : List ℕ → Option (A × List ℕ)) → Leaves part → (n : ℕ) (t : List ℕ)
    → IsRest t (up_to part n t).1
up_to-rest part leaves zero t = itself t
up_to-rest part leaves (suc n) t =
    by_part part n t (part t) refl (λ x e. behind (leaves t x e).rest_is (up_to-rest part leaves n x.1))

pub every-rest : {A : Type 0} (part : List ℕ → Option (A × List ℕ)) → Leaves part → (t : List ℕ)
    → IsRest t (every part t).1
unfolding every
every-rest part leaves t = up_to-rest part leaves (length t) t

pub some-none : {A : Type 0} (part : List ℕ → Option (A × List ℕ)) (t : List ℕ) → part t ≡ None → some part t ≡ None
unfolding some
some-none part t e = rw (every-none part t e) refl

no_less : {B : Type 0} (n : ℕ) (y : B) → ((suc n == 0) ≡ true) × (suc n ≡ 0) ⊎ ((suc n == 0) ≡ false) × (suc n ≢ 0)
    → cond (suc n == 0) None (Some y) ≡ Some y
no_less n y (inl w) = absurd (omega arith)
no_less n y (inr w) = rw w.0 refl

pub some-more : {A : Type 0} (part : List ℕ → Option (A × List ℕ)) → Shortens part → (t : List ℕ) (x : A × List ℕ)
    → part t ≡ Some x → some part t ≡ Some (with_first x.0 (every part x.1))
unfolding some
some-more part short t x e = rw (every-more part short t x e)
    (no_less (length (every part x.1).0) _ (eqb_tells (suc (length (every part x.1).0)) 0))

pub some-rest : {A : Type 0} (part : List ℕ → Option (A × List ℕ)) → Leaves part → (t : List ℕ) (x : List A × List ℕ)
    → some part t ≡ Some x → IsRest t x.1
unfolding some
some-rest part leaves t x e = let found = tested _ _ _ e in rw (← found.1) (every-rest part leaves t)
