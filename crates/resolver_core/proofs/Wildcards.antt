-- The targets of a wildcard.
use Rattle.std.proofs.Common.{◌≡◌, ℕ, List, [], ◌∷◌, length, map, refl}
use Rattle.swc_loader.specs.declared.resolution.FileName.{FileName}
use Rattle.resolver_core.specs.Mapping.{OrFault, by_targets, with_rest, tries_of}

-- unless a wildcard with a text before its `*` has one target, each target has its tries
pub by_targets-each : (folder base : FileName) (s text prefix rest : List ℕ) (targets : List (List ℕ))
    → (length targets ≡ 1 → prefix ≡ [])
    → by_targets folder base s text prefix (map (with_rest rest) targets) ≡ OrFault text
    (map (tries_of folder base s) (map (with_rest rest) targets))
by_targets-each folder base s text [] rest [] bare = refl
by_targets-each folder base s text [] rest (x ∷ []) bare = refl
by_targets-each folder base s text [] rest (x ∷ y ∷ targets) bare = refl
by_targets-each folder base s text (c ∷ prefix) rest [] bare = refl
by_targets-each folder base s text (c ∷ prefix) rest (x ∷ []) bare =
    let none : c ∷ prefix ≡ [] = bare refl in absurd (cc)
by_targets-each folder base s text (c ∷ prefix) rest (x ∷ y ∷ targets) bare = refl
