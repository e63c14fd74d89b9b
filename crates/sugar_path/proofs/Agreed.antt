-- An absolute text is read alike as a route and as a clean path, and both have one text.
use Rattle.std.proofs.Common.{
  ◌≡◌,
  ◌||◌,
  Bool,
  true,
  false,
  cond,
  List,
  [],
  ◌∷◌,
  ◌++◌,
  ℕ,
  bytes_eq,
  refl,
  sym,
  ap,
  ◌∙◌,
  append_assoc,
}
use Rattle.sugar_path.specs.Path.{
  Path,
  IsName,
  IsPath,
  parent,
  steps,
  text_of,
  is_absolute,
  parts,
  by_part,
  by_parts,
  path_in,
  clean,
  join,
  with_slash,
}
use Rattle.sugar_path.specs.Route.{Rooted, Relative, route_by_part, route_by_parts, route_of, route_text, or_dot, place}
use Rattle.sugar_path.specs.Reading.{text_on}
use Rattle.sugar_path.proofs.Parts.{text_of-absolute, path_in-text_of, clean-absolute, IsPath-path_in, IsPath-clean}
use Rattle.sugar_path.proofs.RouteTexts.{route_text-on, route_of-join, with_slash-name}

route_by_part-names : (p : Path) (part : List ℕ) → route_by_part (Rooted p) part ≡ Rooted (by_part p part)
route_by_part-names p part = by_tests (bytes_eq part [] || bytes_eq part (46 ∷ [])) (bytes_eq part (46 ∷ 46 ∷ []))
  where
    by_tests : (a b : Bool) → cond a (Rooted p) (cond b (Rooted (parent p)) (Rooted (part ∷ p))) ≡ Rooted
        (cond a p (cond b (parent p) (part ∷ p)))
    by_tests true b = refl
    by_tests false true = refl
    by_tests false false = refl

route_by_parts-names : (p : Path) (xs : List (List ℕ)) → route_by_parts (Rooted p) xs ≡ Rooted (by_parts p xs)
route_by_parts-names p [] = refl
route_by_parts-names p (x ∷ xs) =
    ap (λ r. route_by_parts r xs) (route_by_part-names p x) ∙ route_by_parts-names (by_part p x) xs

pub route_of-absolute : (t : List ℕ) → is_absolute t ≡ true → route_of t ≡ Rooted (path_in t)
unfolding route_of path_in
route_of-absolute t h =
    ap (λ b. route_by_parts (cond b (Rooted []) (Relative 0 [])) (parts t)) h ∙ route_by_parts-names [] (parts t)

text_on-root : (p : Path) → IsPath p → text_on (47 ∷ []) p ≡ text_of p
text_on-root [] h = refl
text_on-root (n ∷ []) h = refl
text_on-root (n ∷ m ∷ p) h =
    ap (λ t. with_slash t ++ n) (text_on-root (m ∷ p) h.1)
    ∙ ap (λ t. t ++ n) (with_slash-steps (steps p) m h.1.0)
    ∙ append_assoc (steps (m ∷ p)) (47 ∷ []) n
  where
    with_slash-steps : (s m : List ℕ) → IsName m → with_slash (s ++ 47 ∷ m) ≡ (s ++ 47 ∷ m) ++ 47 ∷ []
    with_slash-steps s m name =
        let apart : s ++ 47 ∷ m ≡ (s ++ 47 ∷ []) ++ m = sym (append_assoc s (47 ∷ []) m) in
        ap with_slash apart ∙ with_slash-name (s ++ 47 ∷ []) m name ∙ ap (λ t. t ++ 47 ∷ []) (sym apart)

-- the text of a route from the root is that of its path
pub route_text-rooted_path : (p : Path) → IsPath p → route_text (Rooted p) ≡ text_of p
route_text-rooted_path p h = route_text-on (Rooted p) h ∙ text_on-root p h

-- the place of what leads down from the root is the text of its path
place-rooted_path : (t : List ℕ) (p : Path) → IsPath p → route_of t ≡ Rooted p → place t ≡ text_of p
unfolding place
place-rooted_path t p h is =
    ap (λ r. or_dot (route_text r)) is ∙ ap or_dot (route_text-rooted_path p h) ∙ some (text_of p) (text_of-absolute p)
  where
    some : (u : List ℕ) → is_absolute u ≡ true → or_dot u ≡ u
    some [] e = cc
    some (c ∷ u) e = refl

pub place-absolute : (t : List ℕ) → is_absolute t ≡ true → place t ≡ text_of (path_in t)
place-absolute t h = place-rooted_path t (path_in t) (IsPath-path_in t) (route_of-absolute t h)

-- and a text is read from a clean folder as a clean path is
route_of-below : (cwd : Path) (t : List ℕ) → IsPath cwd → route_of (join (text_of cwd) t) ≡ Rooted (clean cwd t)
unfolding clean
route_of-below cwd t h = by_test (is_absolute t) refl
  where
    by_test : (b : Bool) → is_absolute t ≡ b → route_of (join (text_of cwd) t) ≡ Rooted
        (by_parts (cond b [] cwd) (parts t))
    by_test true e = ap (λ b. route_of (cond b t (with_slash (text_of cwd) ++ t))) e ∙ route_of-absolute t e
        ∙ ap Rooted (sym (clean-absolute [] t e) ∙ ap (λ b. by_parts (cond b [] []) (parts t)) e)
    by_test false e =
        route_of-join (text_of cwd) t e
        ∙ ap (λ r. route_by_parts r (parts t)) (route_of-absolute (text_of cwd) (text_of-absolute cwd)
        ∙ ap Rooted (path_in-text_of cwd h))
        ∙ route_by_parts-names cwd (parts t)

pub place-clean : (cwd : Path) (t : List ℕ) → IsPath cwd → place (join (text_of cwd) t) ≡ text_of (clean cwd t)
place-clean cwd t h =
    place-rooted_path (join (text_of cwd) t) (clean cwd t) (IsPath-clean cwd t h) (route_of-below cwd t h)
