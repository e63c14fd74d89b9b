-- Paths that are in order as they stand, and the relative path at the end of a target.
use Rattle.std.proofs.Common.{
  ◌≡◌,
  ◌≢◌,
  ◌==◌,
  ◌&&◌,
  ◌⊎◌,
  inl,
  inr,
  ℕ,
  zero,
  suc,
  Bool,
  true,
  false,
  not,
  cond,
  List,
  [],
  ◌∷◌,
  ◌++◌,
  length,
  bytes_eq,
  reverse,
  replicate,
  refl,
  sym,
  ap,
  ◌∙◌,
  subst,
  append-nil,
}
use Rattle.std.specs.Prelude.{◌↔◌, IsTrue, Option, Some, None, MatchOption}
use denote.Ref.{Bor}
use Rattle.std.specs.Str.{IsUtf8}
use Rattle.std.specs.List.{join_with_byte}
use Rattle.std.proofs.lemmas.Bool.Decides.{Decides-eqb}
use Rattle.std.proofs.lemmas.List.{append_cancel_left, reverse-append, nil_from_length}
use Rattle.std.proofs.lemmas.Slice.Eq.{bytes_eq-Decides}
use Rattle.sugar_path.specs.Path.{
  Path,
  IsPath,
  IsSteps,
  steps,
  text_of,
  names_in,
  is_absolute,
  parts,
  by_parts,
  path_in,
  ends_in_slash,
  below,
}
use Rattle.sugar_path.specs.Route.{Rooted, route_of, route_text, place, normal}
use Rattle.sugar_path.specs.Relative.{between, way, needs_folder, same_start, relative_from}
use Rattle.sugar_path.specs.Borrowed.{without_last_slashes, IsInOrder, IsWayBorrowed}
use Rattle.sugar_path.specs.BorrowedParts.{IsRestBehind}
use Rattle.sugar_path.proofs.Paths.{IsSteps-steps, names_in-steps}
use Rattle.sugar_path.proofs.Parts.{parts-slash, by_parts-append, IsPath-path_in}
use Rattle.sugar_path.proofs.Below.{below-tells, below-from_text, steps-append}
use Rattle.sugar_path.proofs.RouteTexts.{ends-split}
use Rattle.sugar_path.proofs.Placed.{normal-open}
use Rattle.sugar_path.proofs.WayParts.{between-shared, relative-alone}
use Rattle.sugar_path.proofs.Agreed.{route_of-absolute, route_text-rooted_path, place-absolute}

-- ---- the separators at the end of a text
abbrev pub bare : List ℕ → List ℕ
bare t = without_last_slashes t

-- one more byte in front is a last separator, or stays
abbrev IsLast : ℕ → List ℕ → Type 0
IsLast c t = (bare t ≡ []) × (c ≡ 47) × (bare (c ∷ t) ≡ [])

abbrev Stays : ℕ → List ℕ → Type 0
Stays c t = (bare (c ∷ t) ≡ c ∷ bare t) × (bare t ≡ [] → (c == 47) ≡ false)

bare-cons : (c : ℕ) (t : List ℕ) → IsLast c t ⊎ Stays c t
bare-cons c t = by_tests (bare t) (bytes_eq (bare t) []) (c == 47) refl refl
  where
    by_tests : (u : List ℕ) (a b : Bool) → bytes_eq u [] ≡ a → (c == 47) ≡ b
        → ((u ≡ []) × (c ≡ 47) × (cond (a && b) [] (c ∷ u) ≡ []))
        ⊎ ((cond (a && b) [] (c ∷ u) ≡ c ∷ u) × (u ≡ [] → (c == 47) ≡ false))
    by_tests u true true none is = inl ((bytes_eq-Decides u []).0 none, (Decides-eqb c 47).0 is, refl)
    by_tests u true false none is = inr (refl, λ e. is)
    by_tests u false b none is =
        inr (refl, λ e. absurd (let f : true ≡ false = sym (ap (λ v. bytes_eq v []) e) ∙ none in cc))

-- a text is what is left, and so many separators behind it
pub bare-split : (t : List ℕ) → (k : ℕ) × (t ≡ bare t ++ replicate k 47)
bare-split [] = (0, refl)
bare-split (c ∷ t) = by_case (bare-cons c t) (bare-split t)
  where
    by_case : IsLast c t ⊎ Stays c t → (k : ℕ) × (t ≡ bare t ++ replicate k 47) → (k : ℕ)
        × (c ∷ t ≡ bare (c ∷ t) ++ replicate k 47)
    by_case (inl w) h = (
      suc h.0,
      ap (λ d. d ∷ t) w.1 ∙ ap (λ s. 47 ∷ s) (h.1 ∙ ap (λ u. u ++ replicate h.0 47) w.0)
          ∙ ap (λ u. u ++ 47 ∷ replicate h.0 47) (sym w.2),
    )
    by_case (inr w) h = (h.0, ap (λ s. c ∷ s) h.1 ∙ ap (λ u. u ++ replicate h.0 47) (sym w.0))

-- what is left doesn't end in one
pub bare-unended : (t : List ℕ) → ends_in_slash (bare t) ≡ false
bare-unended [] = refl
bare-unended (c ∷ t) = by_case (bare-cons c t) (bare-unended t)
  where
    longer : (u : List ℕ) → ends_in_slash u ≡ false → (u ≡ [] → (c == 47) ≡ false) → ends_in_slash (c ∷ u) ≡ false
    longer [] unended other = other refl
    longer (d ∷ u) unended other = unended

    by_case : IsLast c t ⊎ Stays c t → ends_in_slash (bare t) ≡ false → ends_in_slash (bare (c ∷ t)) ≡ false
    by_case (inl w) unended = ap ends_in_slash w.2
    by_case (inr w) unended = ap ends_in_slash w.0 ∙ longer (bare t) unended w.1

-- and a text without one at its end is left as it is
pub bare-same : (t : List ℕ) → ends_in_slash t ≡ false → bare t ≡ t
bare-same [] h = refl
bare-same (c ∷ t) h = by_case (bare-cons c t) (bare-same t)
  where
    tail : (t : List ℕ) → ends_in_slash (c ∷ t) ≡ false → ends_in_slash t ≡ false
    tail [] k = refl
    tail (d ∷ t) k = k

    alone : (t : List ℕ) → t ≡ [] → c ≡ 47 → ends_in_slash (c ∷ t) ≡ false → ⊥
    alone t none is k =
        let e : true ≡ false = sym ((Decides-eqb c 47).1 is) ∙ ap (λ u. ends_in_slash (c ∷ u)) (sym none) ∙ k in cc

    by_case : IsLast c t ⊎ Stays c t → (ends_in_slash t ≡ false → bare t ≡ t) → bare (c ∷ t) ≡ c ∷ t
    by_case (inl w) rest = absurd (alone t (sym (rest (tail t h)) ∙ w.0) w.1 h)
    by_case (inr w) rest = w.0 ∙ ap (λ u. c ∷ u) (rest (tail t h))

pub bare-slash : (t : List ℕ) → bare (t ++ 47 ∷ []) ≡ bare t
bare-slash [] = refl
bare-slash (c ∷ t) = ap (λ u. cond (bytes_eq u [] && c == 47) [] (c ∷ u)) (bare-slash t)

-- ---- a path without the separators at its end is read alike
blank-read : (p : Path) (k : ℕ) → by_parts p (parts (replicate k 47)) ≡ p
blank-read p zero = refl
blank-read p (suc k) = blank-read p k

bare-read : (t : List ℕ) → path_in (bare t) ≡ path_in t
unfolding path_in
bare-read t = by_count (bare-split t).0 (bare-split t).1
  where
    by_count : (k : ℕ) → t ≡ bare t ++ replicate k 47 → by_parts [] (parts (bare t)) ≡ by_parts [] (parts t)
    by_count zero is = ap (λ s. by_parts [] (parts s)) (sym (is ∙ append-nil (bare t)))
    by_count (suc k) is =
        sym (blank-read (by_parts [] (parts (bare t))) k)
        ∙ sym (by_parts-append [] (parts (bare t)) (parts (replicate k 47)))
        ∙ ap (by_parts []) (sym (parts-slash (bare t) (replicate k 47)))
        ∙ ap (λ s. by_parts [] (parts s)) (sym is)

pub bare-absolute : (t : List ℕ) → is_absolute t ≡ true → bare t ≢ [] → is_absolute (bare t) ≡ true
bare-absolute [] h some = absurd (some refl)
bare-absolute (c ∷ t) h some = by_case (bare-cons c t)
  where
    by_case : IsLast c t ⊎ Stays c t → is_absolute (bare (c ∷ t)) ≡ true
    by_case (inl w) = absurd (some w.2)
    by_case (inr w) = ap is_absolute w.0 ∙ h

-- ---- a path in order has its names as they stand, each behind a slash
abbrev pub HasSteps : List ℕ → Type 0
HasSteps t = IsSteps (bare t) × (names_in (bare t) ≡ path_in t)

steps-of_path : (p : Path) (s : List ℕ) → IsPath p → s ≡ text_of p → ends_in_slash s ≡ false → IsSteps s
    × (names_in s ≡ p)
steps-of_path [] s h is unended = absurd (let e : false ≡ true = sym unended ∙ ap ends_in_slash is in cc)
steps-of_path (n ∷ p) s h is unended = rw is (IsSteps-steps (n ∷ p) h, names_in-steps (n ∷ p) h)

empty-steps : (t : List ℕ) → bare t ≡ [] → HasSteps t
unfolding path_in
empty-steps t none =
    let nowhere : path_in (bare t) ≡ [] = ap (λ s. by_parts [] (parts s)) none in
    let P : List ℕ → Type 0 = IsSteps in
    (subst P (sym none) (IsSteps-steps [] tt), ap names_in none ∙ sym nowhere ∙ bare-read t)

place-steps : (t : List ℕ) → is_absolute t ≡ true → bare t ≢ [] → normal (bare t) ≡ bare t → HasSteps t
place-steps t absolute some is =
    let text : bare t ≡ text_of (path_in (bare t)) =
    sym is ∙ normal-open (bare t) (bare-unended t) ∙ place-absolute (bare t) (bare-absolute t absolute some) in
    let made = steps-of_path (path_in (bare t)) (bare t) (IsPath-path_in (bare t)) text (bare-unended t) in
    (made.0, made.1 ∙ bare-read t)

in_order-steps : (t : List ℕ) → is_absolute t ≡ true → (bare t ≡ []) ⊎ (normal (bare t) ≡ bare t) → HasSteps t
in_order-steps t absolute (inl none) = empty-steps t none
in_order-steps t absolute (inr is) = by_text (bare t) refl
  where
    by_text : (s : List ℕ) → bare t ≡ s → HasSteps t
    by_text [] e = empty-steps t e
    by_text (c ∷ s) e = place-steps t absolute (λ f. absurd (let g : [] ≡ c ∷ s = sym f ∙ e in cc)) is

-- ---- the relative path at the end of a target
steps-begun : (n : List ℕ) (q : Path) → (r : List ℕ) × (steps (n ∷ q) ≡ 47 ∷ r)
steps-begun n [] = (n, refl)
steps-begun n (m ∷ q) = let w = steps-begun m q in (w.0 ++ 47 ∷ n, ap (λ s. s ++ 47 ∷ n) w.1)

between-none : (xs : List (List ℕ)) → between [] xs ≡ xs
between-none [] = refl
between-none (x ∷ xs) = refl

between-on : (q b : Path) → between (reverse b) (reverse (q ++ b)) ≡ reverse q
between-on q b =
    ap (between (reverse b)) (reverse-append q b)
    ∙ ap (λ xs. between xs (reverse b ++ reverse q)) (sym (append-nil (reverse b)))
    ∙ between-shared (reverse b) [] (reverse q)
    ∙ between-none (reverse q)

both-rooted : (base target : List ℕ) → is_absolute base ≡ true → is_absolute target ≡ true
    → needs_folder base target ≡ false
both-rooted base target h k = ap (λ r. not (same_start (route_of target) r)) (route_of-absolute base h)
    ∙ ap (λ r. not (same_start r (Rooted (path_in base)))) (route_of-absolute target k)

way-on : (cwd base target : List ℕ) (q : Path) → is_absolute base ≡ true → is_absolute target ≡ true
    → path_in target ≡ q ++ path_in base → relative_from cwd base target ≡ join_with_byte 47 (reverse q)
unfolding way
way-on cwd base target q h k is =
    relative-alone cwd base target (both-rooted base target h k)
    ∙ ap (λ r. way r (route_of target)) (route_of-absolute base h)
    ∙ ap (way (Rooted (path_in base))) (route_of-absolute target k ∙ ap Rooted is)
    ∙ ap (join_with_byte 47) (between-on q (path_in base))

-- the names behind a slash
names-behind : (q : Path) (r : List ℕ) → IsPath q → steps q ≡ 47 ∷ r → r ≡ join_with_byte 47 (reverse q)
unfolding route_text
names-behind [] r h is = cc
names-behind (n ∷ q) r h is =
    let whole : 47 ∷ join_with_byte 47 (reverse (n ∷ q)) ≡ 47 ∷ r = route_text-rooted_path (n ∷ q) h ∙ is in cc

IsPath-front : (q p : Path) → IsPath (q ++ p) → IsPath q
IsPath-front [] p h = tt
IsPath-front (n ∷ q) p h = (h.0, IsPath-front q p h.1)

-- the names of a base begin those of a target exactly where its steps do
split-steps : (base target : List ℕ) → HasSteps base → HasSteps target → below (path_in target) (path_in base) ≡ true
    → (q : Path) × IsPath q × (path_in target ≡ q ++ path_in base) × (bare target ≡ bare base ++ steps q)
split-steps base target b t h =
    let w = below-tells (path_in target) (path_in base) h in
    let P : Path → Type 0 = IsPath in (
      w.0,
      IsPath-front w.0 (path_in base) (subst P w.1 (IsPath-path_in target)),
      w.1,
      t.0.text ∙ ap steps (t.1 ∙ w.1) ∙ steps-append w.0 (path_in base)
          ∙ ap (λ s. s ++ steps w.0) (sym (b.0.text ∙ ap steps b.1)),
    )

borrowed-steps : (base target : List ℕ) → IsWayBorrowed base target → HasSteps base × HasSteps target
borrowed-steps base target h =
    (in_order-steps base h.from.absolute h.from.normal, in_order-steps target h.to.absolute h.to.normal)

-- where the target's text goes on behind the base's, the way is borrowed if both are in order
pub borrowed-none : (base target : List ℕ) → IsRestBehind (bare base) (bare target) None → ¬ IsWayBorrowed base target
borrowed-none base target none h =
    let s = borrowed-steps base target h in
    let w = split-steps base target s.0 s.1 h.names in
    by_names w.0 w.3
  where
    by_names : (q : Path) → bare target ≡ bare base ++ steps q → ⊥
    by_names [] is = none.0 (is ∙ append-nil (bare base))
    by_names (n ∷ q) is = let begun = steps-begun n q in none.1 begun.0 (is ∙ ap (λ s. bare base ++ s) begun.1)

pub borrowed-below : (base target r : List ℕ) → IsInOrder base → IsInOrder target
    → IsRestBehind (bare base) (bare target) (Some r) → IsWayBorrowed base target
borrowed-below base target r b t rest =
    let from = in_order-steps base b.absolute b.normal in
    let to = in_order-steps target t.absolute t.normal in
    record { from = b; to = t; names = rw (← from.1, ← to.1) (by_rest rest) }
  where
    by_rest : ((bare target ≡ bare base) × (r ≡ [])) ⊎ (bare target ≡ bare base ++ 47 ∷ r)
        → below (names_in (bare target)) (names_in (bare base)) ≡ true
    by_rest (inl w) = below-from_text (bare target) (bare base) [] (w.0 ∙ sym (append-nil (bare base))) (inl refl)
    by_rest (inr w) = below-from_text (bare target) (bare base) (47 ∷ r) w (inr refl)

pub borrowed-way : (base target r : List ℕ) → IsInOrder base → IsInOrder target
    → IsRestBehind (bare base) (bare target) (Some r) → (cwd : List ℕ) → r ≡ relative_from cwd base target
borrowed-way base target r b t rest cwd =
    let from = in_order-steps base b.absolute b.normal in
    let to = in_order-steps target t.absolute t.normal in
    let w = split-steps base target from to (borrowed-below base target r b t rest).names in
    by_rest w.0 w.1 w.3 rest ∙ sym (way-on cwd base target w.0 b.absolute t.absolute w.2)
  where
    by_rest : (q : Path) → IsPath q → bare target ≡ bare base ++ steps q → ((bare target ≡ bare base) × (r ≡ []))
        ⊎ (bare target ≡ bare base ++ 47 ∷ r) → r ≡ join_with_byte 47 (reverse q)
    by_rest q h is (inr w) = names-behind q r h (append_cancel_left (bare base) (steps q) (47 ∷ r) (sym is ∙ w))
    by_rest [] h is (inl w) = w.1
    by_rest (n ∷ q) h is (inl w) =
        let begun = steps-begun n q in
        absurd (let e : [] ≡ 47 ∷ begun.0 = append_cancel_left (bare base) [] (47 ∷ begun.0)
        (append-nil (bare base) ∙ sym w.0 ∙ is ∙ ap (λ s. bare base ++ s) begun.1) in cc)

-- ---- what the code finds
abbrev pub IsEmptyOrPlace : List ℕ → Type 0
IsEmptyOrPlace t = (t ≡ []) ⊎ (place t ≡ t)

pub empty-told : (t : List ℕ) (b : Bool) → length t ≡ 0 → b ≡ true → IsTrue b ↔ IsEmptyOrPlace t
empty-told t b none is = (λ h. inl (nil_from_length t none), λ h. is)

pub place-told : (t : List ℕ) (b : Bool) → length t ≢ 0 → b ≡ bytes_eq (place t) t → IsTrue b ↔ IsEmptyOrPlace t
place-told t b some is = (λ h. inr ((bytes_eq-Decides (place t) t).0 (sym is ∙ h)), by_case)
  where
    by_case : IsEmptyOrPlace t → b ≡ true
    by_case (inl e) = absurd (some (ap length e))
    by_case (inr e) = is ∙ (bytes_eq-Decides (place t) t).1 e

pub in_order-told : (t front : List ℕ) (b : Bool) → is_absolute t ≡ true → front ≡ bare t → IsEmptyOrPlace front
    → IsTrue b ↔ IsUtf8 t → IsTrue b ↔ IsInOrder t
in_order-told t front b absolute is h utf8 = (
  λ k. record { absolute = absolute; utf8 = utf8.0 k; normal = by_case (subst IsEmptyOrPlace is h) },
  λ k. utf8.1 k.utf8,
)
  where
    by_case : IsEmptyOrPlace (bare t) → (bare t ≡ []) ⊎ (normal (bare t) ≡ bare t)
    by_case (inl e) = inl e
    by_case (inr e) = inr (normal-open (bare t) (bare-unended t) ∙ e)

pub in_order-not : (t : List ℕ) (b : Bool) → b ≡ false → (is_absolute t ≡ false) ⊎ (¬ IsEmptyOrPlace (bare t))
    → IsTrue b ↔ IsInOrder t
in_order-not t b is cases = (λ h. absurd (let e : false ≡ true = sym is ∙ h in cc), λ h. absurd (by_case cases h))
  where
    settled : (bare t ≡ []) ⊎ (normal (bare t) ≡ bare t) → IsEmptyOrPlace (bare t)
    settled (inl e) = inl e
    settled (inr e) = inr (sym (normal-open (bare t) (bare-unended t)) ∙ e)

    by_case : (is_absolute t ≡ false) ⊎ (¬ IsEmptyOrPlace (bare t)) → IsInOrder t → ⊥
    by_case (inl w) h = let e : false ≡ true = sym w ∙ h.absolute in cc
    by_case (inr w) h = w (settled h.normal)

-- what a negative test of a test tells
pub not_told : (b : Bool) (P : Type 0) → b ≡ false → (P → b ≡ true) → ¬ P
not_told b P is tells h = let e : false ≡ true = sym is ∙ tells h in cc

pub bare-done : (s : List ℕ) (r : Option (Bor (List ℕ))) → ((x : Bor (List ℕ)) → r ≢ Some x)
    → MatchOption r ((front : List ℕ) → s ≢ front ++ 47 ∷ []) (λ x. s ≡ x.now ++ 47 ∷ []) → bare s ≡ s
bare-done s None other h = bare-same s (unended s h)
  where
    unended : (s : List ℕ) → ((front : List ℕ) → s ≢ front ++ 47 ∷ []) → ends_in_slash s ≡ false
    unended s none = by_test (ends_in_slash s) refl
      where
        by_test : (b : Bool) → ends_in_slash s ≡ b → b ≡ false
        by_test true e = let w = ends-split s e in absurd (none w.0 w.1)
        by_test false e = refl
bare-done s (Some x) other h = absurd (other x refl)

-- a way that is borrowed needs no working folder
pub borrowed-alone : (base target : List ℕ) → IsWayBorrowed base target → needs_folder base target ≡ false
borrowed-alone base target h = both-rooted base target h.from.absolute h.to.absolute
