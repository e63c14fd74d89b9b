-- What the look-ups of entries by names hold. No promise of a public call reads it.
use Rattle.std.specs.Prelude.{◌≡◌, ℕ, Bool, ◌&&◌, ◌||◌, List, ◌++◌, bytes_eq, codes}
use Rattle.std.specs.List.{list_any}
use Rattle.std.specs.Borrow.{Bor}
use Rattle.std.specs.HashSet.{HashSet, contains_by, contains_text}
use Rattle.lock_checks.specs.Reference.{plain_reference}
use Rattle.pnp_core.specs.declared.manifest.PackageLocator.{PackageLocator}
use Rattle.lock_audit.specs.declared.names.Names.{Names}

-- a set of names with versions has this name with this version
abbrev pub contains_release : {S : Type 0} → HashSet (Bor (List ℕ) × Bor (List ℕ)) S → List ℕ → List ℕ → Bool
contains_release releases name version = contains_by (λ k. bytes_eq name k.0.now && bytes_eq version k.1.now) releases

-- a package of npm's registry, by its name and its plain reference, has this name and version
abbrev pub is_release : List ℕ → List ℕ → List ℕ → List ℕ → Bool
is_release own reference name version = bytes_eq name own && bytes_eq reference (codes "npm:" ++ version)

-- entries of a package are resolved to this text
abbrev pub is_resolution : List ℕ → PackageLocator → Bool
is_resolution text l = bytes_eq text (l.name ++ codes "@" ++ plain_reference l.reference)

-- a package is released as this name and version
abbrev pub is_released_as : List ℕ → List ℕ → PackageLocator → Bool
is_released_as name version l = is_release l.name (plain_reference l.reference) name version

-- names, with those of more packages
pub record Adds (old new : Names) (locators : List PackageLocator) : Type 0 where
  pub resolutions : (text : List ℕ) →
      contains_text new.resolutions text ≡ (list_any (is_resolution text) locators
      || contains_text old.resolutions text)
  pub releases : (name version : List ℕ) →
      contains_release new.releases name version ≡ (list_any (is_released_as name version) locators
      || contains_release old.releases name version)

-- the names of packages, and no others
pub record AreNamesOf (names : Names) (locators : List PackageLocator) : Type 0 where
  pub resolutions : (text : List ℕ) → contains_text names.resolutions text ≡ list_any (is_resolution text) locators
  pub releases : (name version : List ℕ) → contains_release names.releases name version ≡ list_any
      (is_released_as name version) locators
