-- A text without `\` has the normal form that it has as a path.
use Rattle.std.proofs.Common.{
  ◌≡◌,
  ◌≢◌,
  ◌==◌,
  ◌&&◌,
  ◌||◌,
  ℕ,
  zero,
  suc,
  Bool,
  true,
  false,
  not,
  cond,
  List,
  [],
  ◌∷◌,
  ◌++◌,
  length,
  bytes_eq,
  refl,
  sym,
  ap,
  ◌∙◌,
  reverse,
  replicate,
  add-one,
  arith,
}
use Rattle.std.specs.List.{join_with_byte, onto_first, AllByRecursion}
use Rattle.std.proofs.lemmas.Grind.{reverse_onto}
use Rattle.std.proofs.lemmas.List.{reverse-append, replicate_more, length-reverse, append_cancel_right}
use Rattle.std.proofs.lemmas.Slice.Eq.{bytes_eq-Decides}
use Rattle.sugar_path.specs.Path.{
  Path,
  IsName,
  IsPath,
  is_absolute,
  ends_in_slash,
  parts,
  by_part,
  by_parts,
  parent,
  is_plain,
  has_no_slash,
  steps,
  text_of,
}
use Rattle.sugar_path.specs.Route.{
  Route,
  Rooted,
  Relative,
  route_up,
  route_down,
  route_by_part,
  route_by_parts,
  route_start,
  route_of,
  route_names,
  is_rooted,
  route_text,
  or_dot,
  place,
  normal,
}
use Rattle.sugar_path.specs.Reading.{is_start}
use Rattle.sugar_path.proofs.Bools.{and_left, and_right}
use Rattle.sugar_path.proofs.Parts.{HasNoSlash, parts-no_slash}
use Rattle.sugar_path.proofs.RouteTexts.{join-push}
use Rattle.sugar_path.proofs.Placed.{start-loose, IsPath-route_by_part, route_by_part-rooted}
use Rattle.sugar_path.proofs.Heres.{here-place}
use Rattle.sugar_path.proofs.Twice.{place-ends}
use Rattle.pnp_core.specs.NormalizePath.{pieces, normal_names, text_route, with_end, normalize_path}
use Rattle.pnp_core.specs.Laws.{has_no_backslash, with_bare_dot}

-- ---- the pieces of a text without `\` are its parts
pieces-parts : (t : List ℕ) → has_no_backslash t ≡ true → pieces t ≡ parts t
pieces-parts [] h = refl
pieces-parts (x ∷ xs) h = rw (pieces-parts xs (and_right (not (x == 92)) (has_no_backslash xs) h))
    (by_test (x == 47) (x == 92) (and_left (not (x == 92)) (has_no_backslash xs) h))
  where
    by_test : (a b : Bool) → not b ≡ true → cond (a || b) ([] ∷ parts xs) (onto_first x (parts xs)) ≡ cond a
        ([] ∷ parts xs) (onto_first x (parts xs))
    by_test true b h = refl
    by_test false true h = cc
    by_test false false h = refl

-- ---- so its route is the route of a path
names-text : (t : List ℕ) → has_no_backslash t ≡ true → normal_names t ≡ route_text (route_of t)
unfolding text_route route_of
names-text t h = ap (λ ps. route_text (route_by_parts (route_start t) ps)) (pieces-parts t h)

-- ---- the forms
start-text : (r : Route) → is_start r ≡ true → route_text r ≡ []
unfolding route_text
start-text (Rooted p) h = cc
start-text (Relative zero []) h = refl
start-text (Relative zero (n ∷ p)) h = cc
start-text (Relative (suc k) p) h = cc

place-of : (t u : List ℕ) → route_text (route_of t) ≡ u → place t ≡ or_dot u
unfolding place
place-of t u e = ap or_dot e

normal-by : (t s : List ℕ) → place t ≡ s → normal t ≡ cond (ends_in_slash t && not (bytes_eq s (47 ∷ [])))
    (s ++ 47 ∷ []) s
unfolding normal
normal-by t s e = ap (λ p. cond (ends_in_slash t && not (bytes_eq p (47 ∷ []))) (p ++ 47 ∷ []) p) e

-- a path that has parts isn't the folder itself
not-here : (t : List ℕ) (c : ℕ) (u : List ℕ) → route_text (route_of t) ≡ c ∷ u → c ∷ u ≢ 46 ∷ []
not-here t c u text e =
    let here : bytes_eq (place t) (46 ∷ []) ≡ true =
    (bytes_eq-Decides (place t) (46 ∷ [])).1 (place-of t (c ∷ u) text ∙ e) in
    let none : c ∷ u ≡ [] = sym text ∙ start-text (route_of t) (sym (here-place t) ∙ here) in
    cc

bare-other : (s : List ℕ) → s ≢ 46 ∷ 47 ∷ [] → with_bare_dot s ≡ s
bare-other s other = by_test (bytes_eq s (46 ∷ 47 ∷ [])) refl
  where
    by_test : (b : Bool) → bytes_eq s (46 ∷ 47 ∷ []) ≡ b → cond b (46 ∷ []) s ≡ s
    by_test true e = absurd (other ((bytes_eq-Decides s (46 ∷ 47 ∷ [])).0 e))
    by_test false e = refl

pub normalize_path-normal : (t : List ℕ) → has_no_backslash t ≡ true → normalize_path t ≡ with_bare_dot (normal t)
normalize_path-normal t h =
    ap (λ n. cond (bytes_eq n []) (46 ∷ []) (with_end t n)) (names-text t h) ∙ by_text (route_text (route_of t)) refl
  where
    by_end : (b : Bool) → 46 ∷ [] ≡ with_bare_dot (cond (b && true) (46 ∷ 47 ∷ []) (46 ∷ []))
    by_end true = refl
    by_end false = refl

    by_text : (n : List ℕ) → route_text (route_of t) ≡ n
        → cond (bytes_eq n []) (46 ∷ []) (with_end t n) ≡ with_bare_dot (normal t)
    by_text [] e = by_end (ends_in_slash t) ∙ ap with_bare_dot (sym (normal-by t (46 ∷ []) (place-of t [] e)))
    by_text (c ∷ u) e =
        let s = c ∷ u in
        let is : place t ≡ s = place-of t s e in
        let ends : ends_in_slash s ≡ bytes_eq s (47 ∷ []) =
        ap ends_in_slash (sym is) ∙ place-ends t ∙ ap (λ p. bytes_eq p (47 ∷ [])) is in
        let form : normal t ≡ with_end t s =
        normal-by t s is ∙ ap (λ b. cond (ends_in_slash t && not b) (s ++ 47 ∷ []) s) (sym ends) in
        sym (ap with_bare_dot form ∙ bare-other (with_end t s) (other (ends_in_slash t && not (ends_in_slash s)) ends))
      where
        other : (b : Bool) → ends_in_slash (c ∷ u) ≡ bytes_eq (c ∷ u) (47 ∷ [])
            → cond b ((c ∷ u) ++ 47 ∷ []) (c ∷ u) ≢ 46 ∷ 47 ∷ []
        other true ends f = not-here t c u e (append_cancel_right (c ∷ u) (46 ∷ []) (47 ∷ []) f)
        other false ends f =
            let g : true ≡ false = ap ends_in_slash (sym f) ∙ ends ∙ ap (λ p. bytes_eq p (47 ∷ [])) f in cc
