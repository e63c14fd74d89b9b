-- A text is a clean path exactly where it is `/`, or a slash and parts that are names.
use Rattle.std.proofs.Common.{
  ◌≡◌,
  ◌≢◌,
  ◌==◌,
  ◌&&◌,
  ◌⊎◌,
  inl,
  inr,
  ℕ,
  Bool,
  true,
  false,
  cond,
  List,
  [],
  ◌∷◌,
  ◌++◌,
  refl,
  sym,
  ap,
  ◌∙◌,
  append_assoc,
  append-nil,
}
use Rattle.std.specs.Prelude.{flat_map, ◌↔◌, IsTrue}
use Rattle.std.specs.List.{onto_first, list_all, AllByRecursion}
use Rattle.std.proofs.lemmas.Bool.Decides.{eqb_tells}
use Rattle.std.proofs.lemmas.List.Folds.{list_all-append}
use Rattle.sugar_path.specs.Path.{
  Path,
  IsPath,
  IsCleanPath,
  is_name,
  is_plain,
  has_no_slash,
  steps,
  text_of,
  is_absolute,
  parts,
  by_parts,
}
use Rattle.sugar_path.specs.Reading.{are_steps}
use Rattle.sugar_path.proofs.Bools.{and_left, and_right, and_both}
use Rattle.sugar_path.proofs.Paths.{no_slash-name}
use Rattle.sugar_path.proofs.Parts.{
  HasNoSlash,
  parts-some,
  parts-no_slash,
  parts-slash,
  parts-name,
  by_part-name,
  IsPath-by_parts,
  text_of-absolute,
}

-- the parts of a text, each behind a slash, are the text behind a slash
pub behind-parts : (t : List ℕ) → flat_map (λ n. 47 ∷ n) (parts t) ≡ 47 ∷ t
behind-parts [] = refl
behind-parts (c ∷ t) = by_test (eqb_tells c 47) (parts t) (parts-some t) (behind-parts t)
  where
    by_test : (((c == 47) ≡ true) × (c ≡ 47)) ⊎ (((c == 47) ≡ false) × (c ≢ 47)) → (ps : List (List ℕ)) → ps ≢ []
        → flat_map (λ n. 47 ∷ n) ps ≡ 47 ∷ t → flat_map (λ n. 47 ∷ n) (cond (c == 47) ([] ∷ ps) (onto_first c ps)) ≡ 47
        ∷ c ∷ t
    by_test (inl w) ps some is = rw (w.0, w.1, is) refl
    by_test (inr w) [] some is = absurd (some refl)
    by_test (inr w) (p ∷ ps) some is =
        rw w.0 (let rest : p ++ flat_map (λ n. 47 ∷ n) ps ≡ t = cc in ap (λ x. 47 ∷ c ∷ x) rest)

-- names lead down, each behind a slash
pub steps-by_parts : (p : Path) (xs : List (List ℕ)) → list_all is_name xs ≡ true → steps (by_parts p xs) ≡ steps p
    ++ flat_map (λ n. 47 ∷ n) xs
steps-by_parts p [] h = sym (append-nil (steps p))
steps-by_parts p (x ∷ xs) h =
    ap (λ q. steps (by_parts q xs)) (by_part-name p x (and_left (is_name x) (list_all is_name xs) h))
    ∙ steps-by_parts (x ∷ p) xs (and_right (is_name x) (list_all is_name xs) h)
    ∙ append_assoc (steps p) (47 ∷ x) (flat_map (λ n. 47 ∷ n) xs)

-- parts without slash that are neither empty nor dots are names
pub names-plain : (xs : List (List ℕ)) → AllByRecursion HasNoSlash xs → list_all is_plain xs ≡ true
    → list_all is_name xs ≡ true
names-plain [] slash h = refl
names-plain (x ∷ xs) slash h =
    and_both (is_name x) (list_all is_name xs)
    (and_both (is_plain x) (has_no_slash x) (and_left (is_plain x) (list_all is_plain xs) h) slash.0)
    (names-plain xs slash.1 (and_right (is_plain x) (list_all is_plain xs) h))

clean-from_parts : (t : List ℕ) → list_all is_plain (parts t) ≡ true → IsCleanPath (47 ∷ t)
clean-from_parts t h =
    let is : steps (by_parts [] (parts t)) ≡ 47 ∷ t =
    steps-by_parts [] (parts t) (names-plain (parts t) (parts-no_slash t) h) ∙ behind-parts t in
    by_path (by_parts [] (parts t)) (IsPath-by_parts [] (parts t) tt (parts-no_slash t)) is
  where
    by_path : (p : Path) → IsPath p → steps p ≡ 47 ∷ t → IsCleanPath (47 ∷ t)
    by_path [] names is = absurd (let e : [] ≡ 47 ∷ t = is in cc)
    by_path (n ∷ p) names is = (n ∷ p, names, sym is)

-- the parts of the text of a path: an empty one before the first slash, and then names
parts-steps : (p : Path) → IsPath p → (xs : List (List ℕ)) × (parts (steps p) ≡ [] ∷ xs) × (list_all is_plain xs ≡ true)
parts-steps [] h = ([], refl, refl)
parts-steps (n ∷ p) h =
    let w = parts-steps p h.1 in (
      w.0 ++ n ∷ [],
      parts-slash (steps p) n ∙ ap (λ ps. ps ++ parts n) w.1
          ∙ ap (λ ps. [] ∷ (w.0 ++ ps)) (parts-name n (no_slash-name n h.0)),
      list_all-append is_plain w.0 (n ∷ []) ∙ and_both (list_all is_plain w.0) (list_all is_plain (n ∷ [])) w.2
          (and_both (is_plain n) true (and_left (is_plain n) (has_no_slash n) h.0) refl),
    )

parts-from_clean : (t : List ℕ) → IsCleanPath (47 ∷ t) → t ≢ [] → list_all is_plain (parts t) ≡ true
parts-from_clean t (p, names, is) some = by_path p names is
  where
    by_path : (p : Path) → IsPath p → 47 ∷ t ≡ text_of p → list_all is_plain (parts t) ≡ true
    by_path [] names is = absurd (some cc)
    by_path (n ∷ p) names is =
        let w = parts-steps (n ∷ p) names in
        let same : [] ∷ parts t ≡ [] ∷ w.0 = ap parts is ∙ w.1 in
        let rest : parts t ≡ w.0 = cc in
        ap (list_all is_plain) rest ∙ w.2

-- a clean path begins with a slash
clean-begins : (t : List ℕ) → IsCleanPath t → ((r : List ℕ) → t ≢ 47 ∷ r) → ⊥
clean-begins t (p, names, is) other = by_text t other (ap is_absolute is ∙ text_of-absolute p)
  where
    by_text : (t : List ℕ) → ((r : List ℕ) → t ≢ 47 ∷ r) → is_absolute t ≡ true → ⊥
    by_text [] other h = cc
    by_text (c ∷ t) other h = by_test (eqb_tells c 47)
      where
        by_test : (((c == 47) ≡ true) × (c ≡ 47)) ⊎ (((c == 47) ≡ false) × (c ≢ 47)) → ⊥
        by_test (inl w) = other t (ap (λ x. x ∷ t) w.1)
        by_test (inr w) = let e : true ≡ false = sym h ∙ w.0 in cc

pub not_clean-other : (t : List ℕ) → ((r : List ℕ) → t ≢ 47 ∷ r) → IsTrue false ↔ IsCleanPath t
not_clean-other t other = (λ h. absurd (let e : false ≡ true = h in cc), λ clean. absurd (clean-begins t clean other))

pub clean-parts : (t r : List ℕ) (b : Bool) → t ≡ 47 ∷ r → r ≢ [] → b ≡ list_all is_plain (parts r)
    → IsTrue b ↔ IsCleanPath t
clean-parts t r b is some told = rw (is, told) (clean-from_parts r, λ clean. parts-from_clean r clean some)

-- names are the steps of a route that doesn't go up
pub steps-names : (ps : List (List ℕ)) → list_all is_plain ps ≡ are_steps false ps
steps-names [] = refl
steps-names (p ∷ ps) = by_test (is_plain p) (steps-names ps)
  where
    by_test : (b : Bool) → list_all is_plain ps ≡ are_steps false ps
        → (b && list_all is_plain ps) ≡ cond b (are_steps false ps) false
    by_test true rest = rest
    by_test false rest = refl
