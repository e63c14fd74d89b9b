-- A path lies below a location exactly where it is some names on top of it, also as texts.
use Rattle.std.proofs.Common.{
  ◌≡◌,
  ◌≢◌,
  ◌==◌,
  ◌||◌,
  ◌⊎◌,
  inl,
  inr,
  ℕ,
  Bool,
  true,
  false,
  cond,
  List,
  [],
  ◌∷◌,
  ◌++◌,
  bytes_eq,
  refl,
  sym,
  ap,
  ◌∙◌,
  subst,
  append_assoc,
  append-nil,
  length,
}
use Rattle.std.specs.Bool.{Decides}
use Rattle.std.proofs.lemmas.Bool.Decides.{eqb_tells, same_from_decides, Decides-like}
use Rattle.std.proofs.lemmas.List.{append_cancel_left, nil_from_length}
use Rattle.std.proofs.lemmas.Slice.Eq.{bytes_eq-Decides}
use Rattle.sugar_path.specs.Path.{Path, steps, is_absolute, names_in, with_bytes, IsSteps, path_eq, below}
use Rattle.sugar_path.specs.PathEq.{path_eq-Decides}
use Rattle.sugar_path.proofs.Bools.{or_right}
use Rattle.sugar_path.proofs.Paths.{with_bytes-append}
use Rattle.sugar_path.proofs.Parts.{steps-absolute}

-- what lies below a location has names on top of it
pub below-tells : (p l : Path) → below p l ≡ true → (q : Path) × (p ≡ q ++ l)
below-tells [] l h = ([], (path_eq-Decides [] l).0 h)
below-tells (n ∷ p) l h = by_test (path_eq (n ∷ p) l) refl h (λ k. below-tells p l k)
  where
    by_test : (b : Bool) → path_eq (n ∷ p) l ≡ b → (b || below p l) ≡ true
        → (below p l ≡ true → (q : Path) × (p ≡ q ++ l)) → (q : Path) × (n ∷ p ≡ q ++ l)
    by_test true e or tells = ([], (path_eq-Decides (n ∷ p) l).0 e)
    by_test false e or tells = ((n ∷ (tells or).0), ap (λ x. n ∷ x) (tells or).1)

-- names on top of a location lie below it
pub below-append : (q l : Path) → below (q ++ l) l ≡ true
below-append [] [] = refl
below-append [] (n ∷ l) = rw ((path_eq-Decides (n ∷ l) (n ∷ l)).1 refl) refl
below-append (m ∷ q) l = or_right (path_eq (m ∷ (q ++ l)) l) (below (q ++ l) l) (below-append q l)

pub below-same : (p : Path) → below p p ≡ true
below-same p = below-append [] p

pub below-through : (p q l : Path) → below p q ≡ true → below q l ≡ true → below p l ≡ true
below-through p q l h k =
    let upper = below-tells p q h in
    let lower = below-tells q l k in
    rw (upper.1 ∙ ap (λ x. upper.0 ++ x) lower.1 ∙ sym (append_assoc upper.0 lower.0 l))
    (below-append (upper.0 ++ lower.0) l)

pub below-child : (n : List ℕ) (p l : Path) → below p l ≡ true → below (n ∷ p) l ≡ true
below-child n p l h = or_right (path_eq (n ∷ p) l) (below p l) h

pub below-root : (p : Path) → below p [] ≡ true
below-root p = rw (← append-nil p) (below-append p [])

-- the text of names on top of a location begins with the location's
pub steps-append : (q l : Path) → steps (q ++ l) ≡ steps l ++ steps q
steps-append [] l = sym (append-nil (steps l))
steps-append (n ∷ q) l = ap (λ s. s ++ 47 ∷ n) (steps-append q l) ∙ append_assoc (steps l) (steps q) (47 ∷ n)

-- more bytes leave the names below the latest one
with_bytes-keeps : (m : List ℕ) (l : Path) (r : List ℕ) → (q : Path) × (with_bytes (m ∷ l) r ≡ q ++ l)
with_bytes-keeps m l [] = (m ∷ [], refl)
with_bytes-keeps m l (c ∷ r) = by_test (c == 47) (with_bytes-keeps [] (m ∷ l) r) (with_bytes-keeps (m ++ c ∷ []) l r)
  where
    by_test : (b : Bool) → ((q : Path) × (with_bytes ([] ∷ m ∷ l) r ≡ q ++ m ∷ l))
        → ((q : Path) × (with_bytes ((m ++ c ∷ []) ∷ l) r ≡ q ++ l)) → (q : Path)
        × (with_bytes (cond b ([] ∷ m ∷ l) ((m ++ c ∷ []) ∷ l)) r ≡ q ++ l)
    by_test true w v = (w.0 ++ m ∷ [], w.1 ∙ sym (append_assoc w.0 (m ∷ []) l))
    by_test false w v = v

-- what follows the text of a location: nothing, or what begins with a slash
abbrev pub IsRest : List ℕ → Type 0
IsRest r = (r ≡ []) ⊎ (is_absolute r ≡ true)

with_bytes-rest : (l : Path) (r : List ℕ) → IsRest r → (q : Path) × (with_bytes l r ≡ q ++ l)
with_bytes-rest l r (inl e) = ([], ap (with_bytes l) e)
with_bytes-rest l [] (inr h) = ([], refl)
with_bytes-rest l (c ∷ r) (inr h) = by_test (eqb_tells c 47)
  where
    by_test : (((c == 47) ≡ true) × (c ≡ 47)) ⊎ (((c == 47) ≡ false) × (c ≢ 47)) → (q : Path)
        × (with_bytes l (c ∷ r) ≡ q ++ l)
    by_test (inr w) = absurd (let e : true ≡ false = sym h ∙ w.0 in cc)
    by_test (inl w) = by_names l
      where
        by_names : (k : Path) → (q : Path) × (with_bytes k (c ∷ r) ≡ q ++ k)
        by_names [] = rw w.0 (with_bytes-keeps [] [] r)
        by_names (n ∷ k) = rw w.0 (with_bytes-keeps [] (n ∷ k) r)

-- a text of steps that goes on behind another's at a slash lies below it
pub below-from_text : (s t r : List ℕ) → s ≡ t ++ r → IsRest r → below (names_in s) (names_in t) ≡ true
below-from_text s t r is rest =
    let w = with_bytes-rest (names_in t) r rest in
    rw (ap names_in is ∙ with_bytes-append [] t r ∙ w.1) (below-append w.0 (names_in t))

pub text-from_below : (s t : List ℕ) → IsSteps s → IsSteps t → below (names_in s) (names_in t) ≡ true → (r : List ℕ)
    × (s ≡ t ++ r) × IsRest r
text-from_below s t hs ht h =
    let w = below-tells (names_in s) (names_in t) h in (
      steps w.0,
      hs.text ∙ ap steps w.1 ∙ steps-append w.0 (names_in t) ∙ ap (λ x. x ++ steps w.0) (sym ht.text),
      by_names w.0,
    )
  where
    by_names : (q : Path) → IsRest (steps q)
    by_names [] = inl refl
    by_names (n ∷ q) = inr (steps-absolute n q)

steps_below-Decides : (s t r : List ℕ) → IsSteps s → IsSteps t → s ≡ t ++ r
    → Decides (below (names_in s) (names_in t)) (IsRest r)
steps_below-Decides s t r hs ht is = (
  λ h.
      let w = text-from_below s t hs ht h in
      let same : r ≡ w.0 = append_cancel_left t r w.0 (sym is ∙ w.1) in
      let P : List ℕ → Type 0 = IsRest in subst P (sym same) w.2,
  λ rest. below-from_text s t r is rest,
)

-- where the text of a location doesn't begin that of a path
pub below-other : (s t : List ℕ) → IsSteps s → IsSteps t → ((r : List ℕ) → s ≢ t ++ r)
    → false ≡ below (names_in s) (names_in t)
below-other s t hs ht other = by_test (below (names_in s) (names_in t)) refl
  where
    by_test : (b : Bool) → below (names_in s) (names_in t) ≡ b → false ≡ b
    by_test true e = let w = text-from_below s t hs ht e in absurd (other w.0 w.1)
    by_test false e = refl

-- where it begins it, and nothing follows
pub below-whole : (s t r : List ℕ) → IsSteps s → IsSteps t → s ≡ t ++ r → length r ≡ 0
    → true ≡ below (names_in s) (names_in t)
below-whole s t r hs ht is empty = sym ((steps_below-Decides s t r hs ht is).1 (inl (nil_from_length r empty)))

-- where it begins it, and something follows
pub below-more : (s t r : List ℕ) → IsSteps s → IsSteps t → s ≡ t ++ r → length r ≢ 0
    → is_absolute r ≡ below (names_in s) (names_in t)
below-more s t r hs ht is some = same_from_decides (is_absolute r) (below (names_in s) (names_in t))
    ((λ h. inr h), by_case) (steps_below-Decides s t r hs ht is)
  where
    by_case : IsRest r → is_absolute r ≡ true
    by_case (inl e) = absurd (some (ap length e))
    by_case (inr h) = h

-- texts of steps are equal exactly where their paths are
pub bytes_eq-steps : (s t : List ℕ) → IsSteps s → IsSteps t → bytes_eq s t ≡ path_eq (names_in s) (names_in t)
bytes_eq-steps s t hs ht =
    same_from_decides (bytes_eq s t) (path_eq (names_in s) (names_in t))
    (Decides-like (bytes_eq s t) (λ e. ap names_in e) (λ e. hs.text ∙ ap steps e ∙ sym ht.text) (bytes_eq-Decides s t))
    (path_eq-Decides (names_in s) (names_in t))
