-- A location that is written as `./`, names and maybe a `/`, read from a folder.
use Rattle.std.proofs.Common.{
  ◌≡◌,
  ◌⊎◌,
  inl,
  inr,
  ◌==◌,
  ℕ,
  Bool,
  true,
  false,
  cond,
  List,
  [],
  ◌∷◌,
  ◌++◌,
  refl,
  sym,
  ap,
  ◌∙◌,
  append_assoc,
}
use Rattle.std.proofs.lemmas.List.{map-append}
use Rattle.std.proofs.lemmas.Bool.Decides.{Decides-eqb}
use Rattle.sugar_path.specs.Path.{
  Path,
  IsCleanPath,
  is_absolute,
  parts,
  by_parts,
  path_in,
  clean,
  ends_in_slash,
  join,
  with_slash,
  text_of,
}
use Rattle.sugar_path.proofs.Parts.{parts-slash, by_parts-append, clean-absolute}
use Rattle.pnp_core.specs.NormalizePath.{pieces, location_path, normalize_path, with_end}
use Rattle.pnp_core.specs.Slashed.{slashed}
use Rattle.pnp_core.proofs.Slashes.{parts-slashed, clean-slashed, clean-is_absolute}
use Rattle.pnp_core.proofs.Normal.{normal-of, join-absolute}

pieces-slash : (s t : List ℕ) → pieces (s ++ 47 ∷ t) ≡ pieces s ++ pieces t
pieces-slash s t =
    sym (parts-slashed (s ++ 47 ∷ t))
    ∙ ap parts (map-append (λ c. cond (c == 92) 47 c) s (47 ∷ t))
    ∙ parts-slash (slashed s) (slashed t)
    ∙ ap (λ ps. ps ++ parts (slashed t)) (parts-slashed s)
    ∙ ap (λ ps. pieces s ++ ps) (parts-slashed t)

location-slash : (s t : List ℕ) → location_path (s ++ 47 ∷ t) ≡ by_parts (location_path s) (pieces t)
unfolding location_path
location-slash s t = ap (by_parts []) (pieces-slash s t) ∙ by_parts-append [] (pieces s) (pieces t)

-- a `/` at the end leads nowhere
location-end : (t : List ℕ) → location_path (t ++ 47 ∷ []) ≡ location_path t
location-end t = location-slash t []

-- and `./` behind a slash neither
location-dot : (g t : List ℕ) → location_path (g ++ 47 ∷ 46 ∷ 47 ∷ t) ≡ location_path (g ++ 47 ∷ t)
location-dot g t = location-slash g (46 ∷ 47 ∷ t) ∙ ap (by_parts (location_path g)) (pieces-slash (46 ∷ []) t)
    ∙ sym (location-slash g t)

last_slash : (b : List ℕ) → ends_in_slash b ≡ true → (g : List ℕ) × (b ≡ g ++ 47 ∷ [])
last_slash [] h = cc
last_slash (c ∷ []) h = ([], ap (λ x. x ∷ []) ((Decides-eqb c 47).0 h))
last_slash (c ∷ d ∷ cs) h = let w = last_slash (d ∷ cs) h in (c ∷ w.0, ap (λ x. c ∷ x) w.1)

-- a folder before what follows ends in a slash
slash_at_end : (dir : List ℕ) → is_absolute dir ≡ true → (g : List ℕ) × (with_slash dir ≡ g ++ 47 ∷ [])
slash_at_end [] h = cc
slash_at_end (c ∷ cs) h = by_test (ends_in_slash (c ∷ cs)) refl
  where
    by_test : (b : Bool) → ends_in_slash (c ∷ cs) ≡ b → (g : List ℕ)
        × (cond b (c ∷ cs) ((c ∷ cs) ++ 47 ∷ []) ≡ g ++ 47 ∷ [])
    by_test true e = last_slash (c ∷ cs) e
    by_test false e = (c ∷ cs, refl)

from_folder : (dir t : List ℕ) → is_absolute dir ≡ true
    → location_path (with_slash dir ++ 46 ∷ 47 ∷ t) ≡ location_path (with_slash dir ++ t)
from_folder dir t abs =
    let w = slash_at_end dir abs in
    rw (w.1, append_assoc, append_assoc) (location-dot w.0 t)

-- the location that is read from a folder, without `./` and the `/` at its end
pub location-plain : (dir names front : List ℕ) → is_absolute dir ≡ true → (names ≡ front) ⊎ (names ≡ front ++ 47 ∷ [])
    → location_path (with_slash dir ++ front) ≡ location_path (join dir (46 ∷ 47 ∷ names))
location-plain dir names front abs (inl e) =
    sym (from_folder dir names abs ∙ ap (λ t. location_path (with_slash dir ++ t)) e)
location-plain dir names front abs (inr e) =
    sym (from_folder dir names abs ∙ ap (λ t. location_path (with_slash dir ++ t)) e
    ∙ ap location_path (sym (append_assoc (with_slash dir) front (47 ∷ [])))
    ∙ location-end (with_slash dir ++ front))

-- a clean text without `\` names its path
pub location-clean : (t : List ℕ) → IsCleanPath t → slashed t ≡ t → location_path t ≡ path_in t
location-clean t h plain = sym (clean-slashed t) ∙ ap (clean []) plain ∙ clean-absolute [] t (clean-is_absolute t h)

ends-append : (s : List ℕ) (c : ℕ) (t : List ℕ) → ends_in_slash (s ++ c ∷ t) ≡ ends_in_slash (c ∷ t)
ends-append [] c t = refl
ends-append (x ∷ []) c t = refl
ends-append (x ∷ y ∷ s) c t = ends-append (y ∷ s) c t

pub ends-plain : (dir names : List ℕ) → ends_in_slash (join dir (46 ∷ 47 ∷ names)) ≡ ends_in_slash (46 ∷ 47 ∷ names)
ends-plain dir names = ends-append (with_slash dir) 46 (47 ∷ names)

-- the normal form of a joined text, by its path and its end
pub normal-joined : (dir t u : List ℕ) (p : Path) → is_absolute dir ≡ true → p ≡ location_path (join dir t)
    → ends_in_slash (join dir t) ≡ ends_in_slash u → with_end u (text_of p) ≡ normalize_path (join dir t)
normal-joined dir t u p abs names ends =
    sym (normal-of (join dir t) p (join-absolute dir t abs) (sym names) ∙ rw ends refl)
