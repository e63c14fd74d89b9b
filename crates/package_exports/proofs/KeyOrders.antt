-- Of keys that fit, which is before which.
use Rattle.std.proofs.Common.{
  ◌≡◌,
  ◌≢◌,
  ◌==◌,
  ◌<◌,
  ◌≤◌,
  ◌⊎◌,
  inl,
  inr,
  ℕ,
  suc,
  Bool,
  true,
  false,
  cond,
  length,
  Option,
  Some,
  None,
  refl,
  sym,
  ap,
  ◌∙◌,
  arith,
}
use Rattle.std.proofs.Math.Dec.{leb}
use Rattle.std.proofs.lemmas.Bool.Decides.{eqb_tells, leb_tells}
use Rattle.package_exports.specs.Exported.{Fit, is_before, first_of}

-- longer before the `*`, or as long there and longer in all
abbrev Ahead : Fit → Fit → Type 0
Ahead f g = (length g.before < length f.before) ⊎ ((length f.before ≡ length g.before) × (length g.key < length f.key))

abbrev NotAhead : Fit → Fit → Type 0
NotAhead f g =
    (length f.before < length g.before) ⊎ ((length f.before ≡ length g.before) × (length f.key ≤ length g.key))

-- the order says which of two keys is before the other
tells : (f g : Fit) → ((is_before f g ≡ true) × Ahead f g) ⊎ ((is_before f g ≡ false) × NotAhead f g)
tells f g = by_length (eqb_tells (length f.before) (length g.before)) (leb_tells (suc (length g.key)) (length f.key))
    (leb_tells (suc (length g.before)) (length f.before))
  where
    a : ℕ
    a = length f.before

    b : ℕ
    b = length g.before

    k : ℕ
    k = length f.key

    l : ℕ
    l = length g.key

    by_length : ((a == b) ≡ true) × (a ≡ b) ⊎ ((a == b) ≡ false) × (a ≢ b)
        → ((leb (suc l) k ≡ true) × (suc l ≤ k)) ⊎ ((leb (suc l) k ≡ false) × (k < suc l))
        → ((leb (suc b) a ≡ true) × (suc b ≤ a)) ⊎ ((leb (suc b) a ≡ false) × (a < suc b))
        → ((cond (a == b) (leb (suc l) k) (leb (suc b) a) ≡ true) × Ahead f g)
        ⊎ ((cond (a == b) (leb (suc l) k) (leb (suc b) a) ≡ false) × NotAhead f g)
    by_length (inl s) (inl w) v =
        inl (ap (λ x. cond x (leb (suc l) k) (leb (suc b) a)) s.0 ∙ w.0, inr (s.1, omega (arith, w.1)))
    by_length (inl s) (inr w) v =
        inr (ap (λ x. cond x (leb (suc l) k) (leb (suc b) a)) s.0 ∙ w.0, inr (s.1, omega (arith, w.1)))
    by_length (inr s) w (inl v) =
        inl (ap (λ x. cond x (leb (suc l) k) (leb (suc b) a)) s.0 ∙ v.0, inl (omega (arith, v.1)))
    by_length (inr s) w (inr v) =
        inr (ap (λ x. cond x (leb (suc l) k) (leb (suc b) a)) s.0 ∙ v.0, inl (omega (arith, v.1, s.1)))

ahead : (f g : Fit) → is_before f g ≡ true → Ahead f g
ahead f g e = elim (tells f g) [ inl w ↦ w.1 | inr w ↦ let no : true ≡ false = sym e ∙ w.0 in cc ]

not_ahead : (f g : Fit) → is_before f g ≡ false → NotAhead f g
not_ahead f g e = elim (tells f g) [ inl w ↦ let no : true ≡ false = sym w.0 ∙ e in cc | inr w ↦ w.1 ]

apart : (f g : Fit) → Ahead f g → NotAhead f g → ⊥
apart f g (inl v) (inl w) = omega (arith, v, w)
apart f g (inl v) (inr w) = omega (arith, v, w.0)
apart f g (inr v) (inl w) = omega (arith, v.0, w)
apart f g (inr v) (inr w) = omega (arith, v.1, w.1)

is_ahead : (f g : Fit) → Ahead f g → is_before f g ≡ true
is_ahead f g h = elim (tells f g) [ inl w ↦ w.0 | inr w ↦ absurd (apart f g h w.1) ]

isnt_ahead : (f g : Fit) → NotAhead f g → is_before f g ≡ false
isnt_ahead f g h = elim (tells f g) [ inl w ↦ absurd (apart f g w.1 h) | inr w ↦ w.0 ]

-- what is before what is before another, is before that
ahead-ahead : (f g h : Fit) → is_before f g ≡ true → is_before g h ≡ true → is_before f h ≡ true
ahead-ahead f g h d e = is_ahead f h (both (ahead f g d) (ahead g h e))
  where
    both : Ahead f g → Ahead g h → Ahead f h
    both (inl v) (inl w) = inl (omega (arith, v, w))
    both (inl v) (inr w) = inl (omega (arith, v, w.0))
    both (inr v) (inl w) = inl (omega (arith, v.0, w))
    both (inr v) (inr w) = inr (v.0 ∙ w.0, omega (arith, v.1, w.1))

-- what isn't before what isn't before another, isn't before that
pub behind-behind : (f g h : Fit) → is_before f g ≡ false → is_before g h ≡ false → is_before f h ≡ false
behind-behind f g h d e = isnt_ahead f h (both (not_ahead f g d) (not_ahead g h e))
  where
    both : NotAhead f g → NotAhead g h → NotAhead f h
    both (inl v) (inl w) = inl (omega (arith, v, w))
    both (inl v) (inr w) = inl (omega (arith, v, w.0))
    both (inr v) (inl w) = inl (omega (arith, v.0, w))
    both (inr v) (inr w) = inr (v.0 ∙ w.0, omega (arith, v.1, w.1))

pub not-before-itself : (f : Fit) → is_before f f ≡ false
not-before-itself f = isnt_ahead f f (inr (refl, omega arith))

-- what is before another has that one behind it
pub before-behind : (f g : Fit) → is_before f g ≡ true → is_before g f ≡ false
before-behind f g e = isnt_ahead g f (turned (ahead f g e))
  where
    turned : Ahead f g → NotAhead g f
    turned (inl v) = inl v
    turned (inr v) = inr (sym v.0, omega (arith, v.1))

-- ---- the first of several
one-of : (f g : Fit) → Option Fit
one-of f g = first_of (Some f) (Some g)

-- The first of three is that of the first two and the third, and that of the first and the other two.
pub first_of-assoc : (a b c : Option Fit) → first_of (first_of a b) c ≡ first_of a (first_of b c)
first_of-assoc None b c = refl
first_of-assoc (Some f) None c = refl
first_of-assoc (Some f) (Some g) None = by_last (is_before g f)
  where
    by_last : (x : Bool) → first_of (cond x (Some g) (Some f)) None ≡ cond x (Some g) (Some f)
    by_last true = refl
    by_last false = refl
first_of-assoc (Some f) (Some g) (Some h) = by_both (is_before g f) (is_before h g) refl refl
  where
    by_both : (x y : Bool) → is_before g f ≡ x → is_before h g ≡ y
        → first_of (cond x (Some g) (Some f)) (Some h) ≡ first_of (Some f) (cond y (Some h) (Some g))
    by_both true true d e = rw (e, ahead-ahead h g f e d) refl
    by_both true false d e = rw (e, d) refl
    by_both false true d e = refl
    by_both false false d e = rw (d, behind-behind h g f e d) refl

-- the first of two is one of them
pub first_of-one : (a b : Option Fit) (f : Fit) → first_of a b ≡ Some f → (a ≡ Some f) ⊎ (b ≡ Some f)
first_of-one None b f e = inr e
first_of-one (Some g) None f e = inl e
first_of-one (Some g) (Some h) f e = by_order (is_before h g) e
  where
    by_order : (x : Bool) → cond x (Some h) (Some g) ≡ Some f → (Some g ≡ Some f) ⊎ (Some h ≡ Some f)
    by_order true e = inr e
    by_order false e = inl e

-- and neither is before it
pub first_of-least : (a b : Option Fit) (f g : Fit) → first_of a b ≡ Some f → (a ≡ Some g) ⊎ (b ≡ Some g)
    → is_before g f ≡ false
first_of-least None b f g e (inl h) = cc
first_of-least None b f g e (inr h) = let same : g ≡ f = cc in ap (λ x. is_before x f) same ∙ not-before-itself f
first_of-least (Some p) None f g e (inl h) = let same : g ≡ f = cc in ap (λ x. is_before x f) same ∙ not-before-itself f
first_of-least (Some p) None f g e (inr h) = cc
first_of-least (Some p) (Some q) f g e which = by_order (is_before q p) refl e which
  where
    by_order : (x : Bool) → is_before q p ≡ x → cond x (Some q) (Some p) ≡ Some f → (Some p ≡ Some g)
        ⊎ (Some q ≡ Some g) → is_before g f ≡ false
    by_order true is e (inl h) =
        let here : p ≡ g = cc in let there : q ≡ f = cc in
        ap (λ x. is_before x f) (sym here) ∙ ap (is_before p) (sym there) ∙ before-behind q p is
    by_order true is e (inr h) = let same : g ≡ f = cc in ap (λ x. is_before x f) same ∙ not-before-itself f
    by_order false is e (inl h) = let same : g ≡ f = cc in ap (λ x. is_before x f) same ∙ not-before-itself f
    by_order false is e (inr h) =
        let here : q ≡ g = cc in let there : p ≡ f = cc in
        ap (λ x. is_before x f) (sym here) ∙ ap (is_before q) (sym there) ∙ is

pub first_of-none : (a b : Option Fit) → first_of a b ≡ None → (a ≡ None) × (b ≡ None)
first_of-none None b e = (refl, e)
first_of-none (Some f) None e = cc
first_of-none (Some f) (Some g) e = by_order (is_before g f) e
  where
    by_order : (x : Bool) → cond x (Some g) (Some f) ≡ None → (Some f ≡ None) × (Some g ≡ None)
    by_order true e = cc
    by_order false e = cc
