-- The parts of a place are those of the route that leads there.
use Rattle.std.proofs.Common.{
  ◌≡◌,
  ◌≢◌,
  ◌==◌,
  ℕ,
  zero,
  suc,
  Bool,
  true,
  false,
  not,
  cond,
  ◌+◌,
  arith,
  List,
  [],
  ◌∷◌,
  ◌++◌,
  length,
  bytes_eq,
  replicate,
  reverse,
  refl,
  sym,
  ap,
  ◌∙◌,
  subst,
}
use Rattle.std.specs.List.{join_with_byte, prefix_len, AllByRecursion}
use Rattle.std.proofs.lemmas.List.{nil_from_length}
use Rattle.std.proofs.lemmas.Slice.Eq.{bytes_eq-Decides}
use Rattle.sugar_path.specs.Path.{IsName, has_no_slash, is_absolute, parts}
use Rattle.sugar_path.specs.Route.{Route, Rooted, Relative, route_parts, route_text, or_dot}
use Rattle.sugar_path.specs.Reading.{IsPart, IsPlaceOf, is_start, ups_of}
use Rattle.sugar_path.proofs.Bools.{and_left}
use Rattle.sugar_path.proofs.Placed.{AllByRecursion-reverse}
use Rattle.sugar_path.proofs.Heres.{here-route}
use Rattle.sugar_path.proofs.WayParts.{parts-of_route, joined-parts, joined-none}

joined-begins : (xs : List (List ℕ)) → AllByRecursion IsPart xs → is_absolute (or_dot (join_with_byte 47 xs)) ≡ false
joined-begins [] h = refl
joined-begins ([] ∷ xs) h = absurd h.0
joined-begins ((c ∷ a) ∷ []) h = by_test (c == 47) (and_left (not (c == 47)) (has_no_slash a) h.0)
  where
    by_test : (b : Bool) → not b ≡ true → b ≡ false
    by_test true e = cc
    by_test false e = refl
joined-begins ((c ∷ a) ∷ x ∷ xs) h = by_test (c == 47) (and_left (not (c == 47)) (has_no_slash a) h.0)
  where
    by_test : (b : Bool) → not b ≡ true → b ≡ false
    by_test true e = cc
    by_test false e = refl

-- ---- behind the root
rooted-joined : (r : Route) (t x : List ℕ) → IsPlaceOf r t → t ≡ 47 ∷ x → x ≡ join_with_byte 47 (route_parts r)
unfolding route_text
rooted-joined (Rooted p) t x h is = let whole : 47 ∷ x ≡ 47 ∷ join_with_byte 47 (reverse p) = sym is ∙ h.text in cc
rooted-joined (Relative k p) t x h is =
    absurd (let e : false ≡ true = sym (joined-begins (route_parts (Relative k p))
    (parts-of_route (Relative k p) h.names)) ∙ ap is_absolute (sym h.text ∙ is) in cc)

pub root-parts : (r : Route) (t x : List ℕ) → IsPlaceOf r t → t ≡ 47 ∷ x → length x ≡ 0 → [] ≡ route_parts r
root-parts r t x h is none =
    sym (joined-none (route_parts r) (parts-of_route r h.names) (ap length (sym (rooted-joined r t x h is)) ∙ none))

pub rooted-parts : (r : Route) (t x : List ℕ) → IsPlaceOf r t → t ≡ 47 ∷ x → length x ≢ 0 → parts x ≡ route_parts r
rooted-parts r t x h is some =
    let text = rooted-joined r t x h is in
    ap parts text ∙ joined-parts (route_parts r) (parts-of_route r h.names) (λ none. some (ap length text ∙ none))

-- ---- with no root
pub here-parts : (r : Route) (t : List ℕ) → IsPlaceOf r t → t ≡ 46 ∷ [] → [] ≡ route_parts r
here-parts r t h is =
    by_route r (sym (here-route r h.names) ∙ (bytes_eq-Decides (or_dot (route_text r)) (46 ∷ [])).1 (sym h.text ∙ is))
  where
    by_route : (r : Route) → is_start r ≡ true → [] ≡ route_parts r
    by_route (Rooted p) e = cc
    by_route (Relative zero []) e = refl
    by_route (Relative zero (n ∷ p)) e = cc
    by_route (Relative (suc k) p) e = cc

pub loose-parts : (r : Route) (t : List ℕ) → IsPlaceOf r t → ((x : List ℕ) → t ≢ 47 ∷ x) → t ≢ 46 ∷ []
    → parts t ≡ route_parts r
unfolding route_text
loose-parts (Rooted p) t h other else = absurd (other (join_with_byte 47 (reverse p)) h.text)
loose-parts (Relative k p) t h other else = by_text (join_with_byte 47 (route_parts (Relative k p))) refl h.text
  where
    by_text : (u : List ℕ) → join_with_byte 47 (route_parts (Relative k p)) ≡ u → t ≡ or_dot u
        → parts t ≡ route_parts (Relative k p)
    by_text [] e is = absurd (else is)
    by_text (c ∷ u) e is =
        ap parts (is ∙ sym e)
        ∙ joined-parts (route_parts (Relative k p)) (parts-of_route (Relative k p) h.names)
        (λ none. let f : c ∷ u ≡ [] = sym e
        ∙ nil_from_length (join_with_byte 47 (route_parts (Relative k p))) none in cc)

-- ---- the `..` that a place begins with
abbrev pub is_dots : List ℕ → Bool
is_dots part = bytes_eq part (46 ∷ 46 ∷ [])

names-told : (xs : List (List ℕ)) → AllByRecursion IsName xs → prefix_len is_dots xs ≡ 0
names-told [] h = refl
names-told (x ∷ xs) h = by_test (bytes_eq x (46 ∷ 46 ∷ [])) refl
  where
    by_test : (b : Bool) → bytes_eq x (46 ∷ 46 ∷ []) ≡ b → cond b (1 + prefix_len is_dots xs) 0 ≡ 0
    by_test true e = let P : List ℕ → Type 0 = IsName in let f : false ≡ true =
        subst P ((bytes_eq-Decides x (46 ∷ 46 ∷ [])).0 e) h.0 in cc
    by_test false e = refl

dots-told : (k : ℕ) (xs : List (List ℕ)) → AllByRecursion IsName xs
    → prefix_len is_dots (replicate k (46 ∷ 46 ∷ []) ++ xs) ≡ k
dots-told zero xs h = names-told xs h
dots-told (suc k) xs h = ap (λ n. 1 + n) (dots-told k xs h) ∙ omega arith

pub ups-told : (r : Route) (t : List ℕ) → IsPlaceOf r t → prefix_len is_dots (parts t) ≡ ups_of r
unfolding route_text
ups-told (Rooted p) t h = ap (λ u. prefix_len is_dots (parts u)) h.text
ups-told (Relative k p) t h = by_text (join_with_byte 47 (route_parts (Relative k p))) refl h.text
  where
    names : AllByRecursion IsName (reverse p)
    names = AllByRecursion-reverse IsName p h.names

    all : AllByRecursion IsPart (route_parts (Relative k p))
    all = parts-of_route (Relative k p) h.names

    by_text : (u : List ℕ) → join_with_byte 47 (route_parts (Relative k p)) ≡ u → t ≡ or_dot u
        → prefix_len is_dots (parts t) ≡ k
    by_text [] e is =
        let none : route_parts (Relative k p) ≡ [] = joined-none (route_parts (Relative k p)) all (ap length e) in
        ap (λ u. prefix_len is_dots (parts u)) is ∙ sym (ap (prefix_len is_dots) none) ∙ dots-told k (reverse p) names
    by_text (c ∷ u) e is =
        ap (λ u. prefix_len is_dots (parts u)) (is ∙ sym e)
        ∙ ap (prefix_len is_dots) (joined-parts (route_parts (Relative k p)) all
        (λ none. let f : c ∷ u ≡ [] = sym e
        ∙ nil_from_length (join_with_byte 47 (route_parts (Relative k p))) none in cc))
        ∙ dots-told k (reverse p) names
