-- A place is its own place, and a normal form its own normal form.
use Rattle.std.proofs.Common.{
  ◌≡◌,
  ◌≢◌,
  ◌==◌,
  ◌&&◌,
  ◌||◌,
  ◌⊎◌,
  inl,
  inr,
  ℕ,
  Bool,
  true,
  false,
  not,
  cond,
  List,
  [],
  ◌∷◌,
  ◌++◌,
  length,
  bytes_eq,
  refl,
  sym,
  ap,
  ◌∙◌,
  arith,
}
use Rattle.std.specs.List.{join_with_byte}
use Rattle.std.proofs.lemmas.Bool.Decides.{eqb_tells}
use Rattle.std.proofs.lemmas.Slice.Eq.{bytes_eq-Decides}
use Rattle.sugar_path.specs.Path.{is_plain, is_absolute, ends_in_slash, parts}
use Rattle.sugar_path.specs.Route.{route_of, route_parts, or_dot, place, normal}
use Rattle.sugar_path.specs.Reading.{are_steps}
use Rattle.sugar_path.proofs.Parts.{parts-slash}
use Rattle.sugar_path.proofs.RouteTexts.{ends-split}
use Rattle.sugar_path.proofs.Placed.{
  route_of-rooted,
  route_text-rooted,
  looks_loose,
  looks_rooted,
  loose-place,
  rooted-place,
  placed-loose,
  placed-rooted,
  normal-closed,
}
use Rattle.sugar_path.proofs.Heres.{place-long}

-- what looks like a relative place doesn't begin with a slash
looks_loose-open : (t rest : List ℕ) → looks_loose t ≡ true → t ≢ 47 ∷ rest
looks_loose-open t rest h is = let e : false ≡ true = ap looks_loose (sym is) ∙ h in cc

-- a part that is empty is no step, the last one neither
steps-unended : (up : Bool) (xs : List (List ℕ)) → are_steps up (xs ++ [] ∷ []) ≡ false
steps-unended true [] = refl
steps-unended false [] = refl
steps-unended up (x ∷ xs) =
    by_test (is_plain x) up (bytes_eq x (46 ∷ 46 ∷ [])) (steps-unended false xs) (steps-unended up xs)
  where
    by_test : (a b c : Bool) → are_steps false (xs ++ [] ∷ []) ≡ false → are_steps b (xs ++ [] ∷ []) ≡ false
        → cond a (are_steps false (xs ++ [] ∷ [])) (b && c && are_steps b (xs ++ [] ∷ [])) ≡ false
    by_test true b c f g = f
    by_test false true true f g = g
    by_test false true false f g = refl
    by_test false false c f g = refl

steps-ended : (up : Bool) (t : List ℕ) → ends_in_slash t ≡ true → are_steps up (parts t) ≡ false
steps-ended up t ended =
    let w = ends-split t ended in
    ap (λ s. are_steps up (parts s)) w.1 ∙ ap (are_steps up) (parts-slash w.0 []) ∙ steps-unended up (parts w.0)

-- a relative place ends in no slash
loose-ends : (t : List ℕ) → looks_loose t ≡ true → ends_in_slash t ≡ false
loose-ends t h = by_tests (bytes_eq t (46 ∷ [])) (ends_in_slash t) refl refl h
  where
    by_tests : (a b : Bool) → bytes_eq t (46 ∷ []) ≡ a → ends_in_slash t ≡ b → (a || are_steps true (parts t)) ≡ true
        → b ≡ false
    by_tests a false e f g = refl
    by_tests true true e f g =
        let dot : true ≡ false = sym f ∙ ap ends_in_slash ((bytes_eq-Decides t (46 ∷ [])).0 e) in cc
    by_tests false true e f g = let none : false ≡ true = sym (steps-ended true t f) ∙ g in cc

-- nor do the names of a rooted one
rooted-ends : (names : List ℕ) → looks_rooted names ≡ true → ends_in_slash (47 ∷ names) ≡ true → names ≡ []
rooted-ends [] h ended = refl
rooted-ends (c ∷ n) h ended = by_test (eqb_tells (length (c ∷ n)) 0) h
  where
    by_test : (((length (c ∷ n) == 0) ≡ true) × (length (c ∷ n) ≡ 0))
        ⊎ (((length (c ∷ n) == 0) ≡ false) × (length (c ∷ n) ≢ 0))
        → ((length (c ∷ n) == 0) || are_steps false (parts (c ∷ n))) ≡ true → c ∷ n ≡ []
    by_test (inl w) h = absurd (omega (arith, w.1))
    by_test (inr w) h = let none : false ≡ true = sym (steps-ended false (c ∷ n) ended) ∙ (rw w.0 at h) in cc

-- the place of an absolute path begins with its root
place-root : (t : List ℕ) → is_absolute t ≡ true → place t ≡ 47 ∷ join_with_byte 47 (route_parts (route_of t))
unfolding place
place-root t rooted = ap or_dot (route_text-rooted (route_of t) (route_of-rooted t ∙ rooted))

-- a place is its own place, and ends in a slash only where it is the root
abbrev IsPlaced : List ℕ → Type 0
IsPlaced s = (place s ≡ s) × (ends_in_slash s ≡ true → s ≡ 47 ∷ [])

placed : (t : List ℕ) → IsPlaced (place t)
placed t = by_root (is_absolute t) refl
  where
    by_root : (b : Bool) → is_absolute t ≡ b → IsPlaced (place t)
    by_root true e =
        let names = join_with_byte 47 (route_parts (route_of t)) in
        let is : place t ≡ 47 ∷ names = place-root t e in
        let looks : looks_rooted names ≡ true = rooted-place t names e (sym is) in (
          (bytes_eq-Decides (place (place t)) (place t)).0 (sym (placed-rooted (place t) names is) ∙ looks),
          λ ended. is ∙ ap (λ n. 47 ∷ n) (rooted-ends names looks (ap ends_in_slash (sym is) ∙ ended)),
        )
    by_root false e =
        let looks : looks_loose (place t) ≡ true = loose-place t e in (
          (bytes_eq-Decides (place (place t)) (place t)).0 (sym
              (placed-loose (place t) (λ rest. looks_loose-open (place t) rest looks)) ∙ looks),
          λ ended. absurd (let f : true ≡ false = sym ended ∙ loose-ends (place t) looks in cc),
        )

-- a place ends in a slash exactly where it is the root
pub place-ends : (t : List ℕ) → ends_in_slash (place t) ≡ bytes_eq (place t) (47 ∷ [])
place-ends t = by_test (ends_in_slash (place t)) (bytes_eq (place t) (47 ∷ [])) refl refl
  where
    by_test : (a b : Bool) → ends_in_slash (place t) ≡ a → bytes_eq (place t) (47 ∷ []) ≡ b → a ≡ b
    by_test true b e f = sym ((bytes_eq-Decides (place t) (47 ∷ [])).1 ((placed t).1 e)) ∙ f
    by_test false true e f =
        let g : true ≡ false = ap ends_in_slash (sym ((bytes_eq-Decides (place t) (47 ∷ [])).0 f)) ∙ e in cc
    by_test false false e f = refl

pub place-place : (t : List ℕ) → place (place t) ≡ place t
place-place t = (placed t).0

-- a place is a normal form
normal-place : (t : List ℕ) → normal (place t) ≡ place t
unfolding normal
normal-place t = by_test (ends_in_slash (place t)) refl
  where
    by_test : (b : Bool) → ends_in_slash (place t) ≡ b
        → cond (b && not (bytes_eq (place (place t)) (47 ∷ []))) (place (place t) ++ 47 ∷ []) (place (place t)) ≡ place
        t
    by_test true e =
        let root : place t ≡ 47 ∷ [] = (placed t).1 e in
        ap (λ s. cond (not (bytes_eq s (47 ∷ []))) (s ++ 47 ∷ []) s) (place-place t ∙ root) ∙ sym root
    by_test false e = place-place t

-- and so is a place that isn't the root, with a slash behind it
normal-place_slash : (t : List ℕ) → bytes_eq (place t) (47 ∷ []) ≡ false → normal (place t ++ 47 ∷ []) ≡ place t
    ++ 47 ∷ []
normal-place_slash t other =
    normal-closed (place t) (place-long t)
    ∙ ap (λ s. cond (not (bytes_eq s (47 ∷ []))) (s ++ 47 ∷ []) s) (place-place t)
    ∙ ap (λ b. cond (not b) (place t ++ 47 ∷ []) (place t)) other

normal-by : (t : List ℕ) (a b : Bool) → ends_in_slash t ≡ a → bytes_eq (place t) (47 ∷ []) ≡ b
    → normal t ≡ cond (a && not b) (place t ++ 47 ∷ []) (place t)
unfolding normal
normal-by t a b e f = rw (e, f) refl

pub normal-normal : (t : List ℕ) → normal (normal t) ≡ normal t
normal-normal t = by_tests (ends_in_slash t) (bytes_eq (place t) (47 ∷ [])) refl refl
  where
    by_tests : (a b : Bool) → ends_in_slash t ≡ a → bytes_eq (place t) (47 ∷ []) ≡ b → normal (normal t) ≡ normal t
    by_tests true false e f =
        ap normal (normal-by t true false e f) ∙ normal-place_slash t f ∙ sym (normal-by t true false e f)
    by_tests true true e f = ap normal (normal-by t true true e f) ∙ normal-place t ∙ sym (normal-by t true true e f)
    by_tests false b e f = ap normal (normal-by t false b e f) ∙ normal-place t ∙ sym (normal-by t false b e f)
