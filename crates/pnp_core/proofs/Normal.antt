-- The normal form of an absolute text is its own, and names the same path.
use Rattle.std.proofs.Common.{
  ◌≡◌,
  ◌≢◌,
  ◌==◌,
  ◌&&◌,
  ◌||◌,
  ◌⊎◌,
  inl,
  inr,
  ℕ,
  Bool,
  true,
  false,
  not,
  cond,
  List,
  [],
  ◌∷◌,
  ◌++◌,
  bytes_eq,
  refl,
  sym,
  ap,
  subst,
  ◌∙◌,
}
use Rattle.std.specs.List.{AllByRecursion, onto_first}
use Rattle.std.proofs.lemmas.Bool.Decides.{eqb_tells}
use Rattle.sugar_path.specs.Path.{
  Path,
  IsPath,
  is_absolute,
  ends_in_slash,
  with_slash,
  join,
  parts,
  by_part,
  by_parts,
  parent,
  steps,
  text_of,
  clean,
}
use Rattle.sugar_path.proofs.Parts.{parts-slash, by_parts-append, clean-text_of, text_of-absolute}
use Rattle.pnp_core.specs.NormalizePath.{location_path, normal_names, with_end, normalize_path}
use Rattle.pnp_core.specs.Slashed.{slashed}
use Rattle.pnp_core.proofs.Routes.{names-rooted}
use Rattle.pnp_core.proofs.Slashes.{clean-slashed, IsPath-location_path}

-- ---- texts without `\`

abbrev HasNone : List ℕ → Type 0
HasNone t = AllByRecursion (λ c. (c == 92) ≡ false) t

HasNone-append : (s t : List ℕ) → HasNone s → HasNone t → HasNone (s ++ t)
HasNone-append [] t h k = k
HasNone-append (c ∷ s) t h k = (h.0, HasNone-append s t h.1 k)

slashed-same : (t : List ℕ) → HasNone t → slashed t ≡ t
slashed-same [] h = refl
slashed-same (c ∷ t) h = rw (h.0, slashed-same t h.1) refl

HasNone-slashed : (t : List ℕ) → HasNone (slashed t)
HasNone-slashed [] = tt
HasNone-slashed (c ∷ t) = (by_test (eqb_tells c 92), HasNone-slashed t)
  where
    by_test : ((c == 92) ≡ true) × (c ≡ 92) ⊎ ((c == 92) ≡ false) × (c ≢ 92) → (cond (c == 92) 47 c == 92) ≡ false
    by_test (inl w) = rw w.0 refl
    by_test (inr w) = rw w.0 w.0

onto : (x : ℕ) (b : Bool) → (x == 92) ≡ false → (ps : List (List ℕ)) → AllByRecursion HasNone ps
    → AllByRecursion HasNone (cond b ([] ∷ ps) (onto_first x ps))
onto x true e ps h = (tt, h)
onto x false e [] h = ((e, tt), tt)
onto x false e (p ∷ ps) h = ((e, h.0), h.1)

HasNone-parts : (t : List ℕ) → HasNone t → AllByRecursion HasNone (parts t)
HasNone-parts [] h = (tt, tt)
HasNone-parts (x ∷ xs) h = onto x (x == 47) h.0 (parts xs) (HasNone-parts xs h.1)

HasNone-parent : (p : Path) → AllByRecursion HasNone p → AllByRecursion HasNone (parent p)
HasNone-parent [] h = tt
HasNone-parent (n ∷ p) h = h.1

HasNone-by_part : (p : Path) (part : List ℕ) → AllByRecursion HasNone p → HasNone part
    → AllByRecursion HasNone (by_part p part)
HasNone-by_part p part h k = by_tests (bytes_eq part [] || bytes_eq part (46 ∷ [])) (bytes_eq part (46 ∷ 46 ∷ []))
  where
    by_tests : (a b : Bool) → AllByRecursion HasNone (cond a p (cond b (parent p) (part ∷ p)))
    by_tests true b = h
    by_tests false true = HasNone-parent p h
    by_tests false false = (k, h)

HasNone-by_parts : (p : Path) (ps : List (List ℕ)) → AllByRecursion HasNone p → AllByRecursion HasNone ps
    → AllByRecursion HasNone (by_parts p ps)
HasNone-by_parts p [] h k = h
HasNone-by_parts p (part ∷ ps) h k = HasNone-by_parts (by_part p part) ps (HasNone-by_part p part h k.0) k.1

HasNone-steps : (p : Path) → AllByRecursion HasNone p → HasNone (steps p)
HasNone-steps [] h = tt
HasNone-steps (n ∷ p) h = HasNone-append (steps p) (47 ∷ n) (HasNone-steps p h.1) (refl, h.0)

HasNone-text_of : (p : Path) → AllByRecursion HasNone p → HasNone (text_of p)
HasNone-text_of [] h = (refl, tt)
HasNone-text_of (n ∷ p) h = HasNone-steps (n ∷ p) h

HasNone-clean : (s : List ℕ) → HasNone s → AllByRecursion HasNone (clean [] s)
unfolding clean
HasNone-clean s h =
    HasNone-by_parts (cond (is_absolute s) [] []) (parts s) (by_test (is_absolute s)) (HasNone-parts s h)
  where
    by_test : (b : Bool) → AllByRecursion HasNone (cond b [] [])
    by_test true = tt
    by_test false = tt

HasNone-location : (t : List ℕ) → HasNone (text_of (location_path t))
HasNone-location t =
    let AllHaveNone : Path → Type 0 = AllByRecursion HasNone in
    HasNone-text_of (location_path t) (subst AllHaveNone (clean-slashed t)
    (HasNone-clean (slashed t) (HasNone-slashed t)))

-- ---- the path that is named

location-text : (p : Path) → IsPath p → HasNone (text_of p) → location_path (text_of p) ≡ p
location-text p path none =
    sym (clean-slashed (text_of p)) ∙ ap (clean []) (slashed-same (text_of p) none) ∙ clean-text_of [] p path

clean-slash : (s : List ℕ) → clean [] (s ++ 47 ∷ []) ≡ clean [] s
unfolding clean
clean-slash s = rw (parts-slash s [], by_parts-append (cond (is_absolute (s ++ 47 ∷ [])) [] []) (parts s) ([] ∷ []))
    (by_tests (is_absolute (s ++ 47 ∷ [])) (is_absolute s))
  where
    by_tests : (a b : Bool) → by_parts (cond a [] []) (parts s) ≡ by_parts (cond b [] []) (parts s)
    by_tests true true = refl
    by_tests true false = refl
    by_tests false true = refl
    by_tests false false = refl

location-slash : (p : Path) → IsPath p → HasNone (text_of p) → location_path (text_of p ++ 47 ∷ []) ≡ p
location-slash p path none =
    sym (clean-slashed (text_of p ++ 47 ∷ []))
    ∙ ap (clean []) (slashed-same (text_of p ++ 47 ∷ []) (HasNone-append (text_of p) (47 ∷ []) none (refl, tt)))
    ∙ clean-slash (text_of p)
    ∙ clean-text_of [] p path

-- ---- the normal form

text_of-some : (p : Path) → bytes_eq (text_of p) [] ≡ false
text_of-some [] = refl
text_of-some (n ∷ p) = behind (steps p)
  where
    behind : (s : List ℕ) → bytes_eq (s ++ 47 ∷ n) [] ≡ false
    behind [] = refl
    behind (c ∷ s) = refl

-- an absolute text, whose path has a text of its own
pub normal-of : (t : List ℕ) (p : Path) → is_absolute t ≡ true → location_path t ≡ p
    → normalize_path t ≡ with_end t (text_of p)
normal-of t p abs names =
    let text : normal_names t ≡ text_of p = names-rooted t abs ∙ ap text_of names in rw (text, text_of-some p) refl

absolute-append : (s u : List ℕ) → is_absolute s ≡ true → is_absolute (s ++ u) ≡ true
absolute-append [] u h = cc
absolute-append (c ∷ s) u h = h

ends-slash : (s : List ℕ) → ends_in_slash (s ++ 47 ∷ []) ≡ true
ends-slash [] = refl
ends-slash (c ∷ []) = refl
ends-slash (c ∷ d ∷ s) = ends-slash (d ∷ s)

with_end-same : (s : List ℕ) → with_end s s ≡ s
with_end-same s = by_test (ends_in_slash s)
  where
    by_test : (b : Bool) → cond (b && not b) (s ++ 47 ∷ []) s ≡ s
    by_test true = refl
    by_test false = refl

-- an absolute text names the path that its normal form names
pub location_path-normalize_path : (t : List ℕ) → is_absolute t ≡ true
    → location_path (normalize_path t) ≡ location_path t
location_path-normalize_path t abs = rw (normal-of t (location_path t) abs refl)
    (by_test (ends_in_slash t && not (ends_in_slash (text_of (location_path t)))))
  where
    by_test : (b : Bool) → location_path (cond b (text_of (location_path t) ++ 47 ∷ []) (text_of (location_path t))) ≡
        location_path t
    by_test true = location-slash (location_path t) (IsPath-location_path t) (HasNone-location t)
    by_test false = location-text (location_path t) (IsPath-location_path t) (HasNone-location t)

pub normalize_path-absolute : (t : List ℕ) → is_absolute t ≡ true → is_absolute (normalize_path t) ≡ true
normalize_path-absolute t abs = rw (normal-of t (location_path t) abs refl)
    (by_test (ends_in_slash t && not (ends_in_slash (text_of (location_path t)))))
  where
    by_test : (b : Bool) → is_absolute (cond b (text_of (location_path t) ++ 47 ∷ []) (text_of (location_path t))) ≡
        true
    by_test true = absolute-append (text_of (location_path t)) (47 ∷ []) (text_of-absolute (location_path t))
    by_test false = text_of-absolute (location_path t)

-- the normal form of an absolute text is its own
pub normalize_path-twice : (t : List ℕ) → is_absolute t ≡ true → normalize_path (normalize_path t) ≡ normalize_path t
normalize_path-twice t abs = rw (normal-of t (location_path t) abs refl)
    (by_tests (ends_in_slash t) (ends_in_slash (text_of (location_path t))) refl)
  where
    plain : normalize_path (text_of (location_path t)) ≡ text_of (location_path t)
    plain = normal-of (text_of (location_path t)) (location_path t) (text_of-absolute (location_path t))
        (location-text (location_path t) (IsPath-location_path t) (HasNone-location t))
        ∙ with_end-same (text_of (location_path t))

    by_tests : (a b : Bool) → ends_in_slash (text_of (location_path t)) ≡ b
        → normalize_path (cond (a && not b) (text_of (location_path t) ++ 47 ∷ []) (text_of (location_path t))) ≡ cond
        (a && not b) (text_of (location_path t) ++ 47 ∷ []) (text_of (location_path t))
    by_tests true true e = plain
    by_tests true false e =
        normal-of (text_of (location_path t) ++ 47 ∷ []) (location_path t)
        (absolute-append (text_of (location_path t)) (47 ∷ []) (text_of-absolute (location_path t)))
        (location-slash (location_path t) (IsPath-location_path t) (HasNone-location t))
        ∙ rw (ends-slash (text_of (location_path t)), e) refl
    by_tests false b e = plain

with_slash-absolute : (dir : List ℕ) → is_absolute dir ≡ true → is_absolute (with_slash dir) ≡ true
with_slash-absolute dir abs = by_test (bytes_eq dir [] || ends_in_slash dir)
  where
    by_test : (b : Bool) → is_absolute (cond b dir (dir ++ 47 ∷ [])) ≡ true
    by_test true = abs
    by_test false = absolute-append dir (47 ∷ []) abs

-- a text behind an absolute folder is absolute
pub join-absolute : (dir t : List ℕ) → is_absolute dir ≡ true → is_absolute (join dir t) ≡ true
join-absolute dir t abs = by_test (is_absolute t) refl
  where
    by_test : (b : Bool) → is_absolute t ≡ b → is_absolute (cond b t (with_slash dir ++ t)) ≡ true
    by_test true e = e
    by_test false e = absolute-append (with_slash dir) t (with_slash-absolute dir abs)
