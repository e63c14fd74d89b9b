-- Who owns a path, as a relation between a manifest, a path and a locator.
use Rattle.std.specs.Prelude.{◌≡◌, ◌≢◌, ◌≤◌, ◌↔◌, false, List, ◌∷◌, ◌++◌, length, Some, None}
use Rattle.std.specs.List.{All}
use Rattle.sugar_path.specs.Path.{Path, text_of}
use Rattle.std.specs.Str.{chars}
use Rattle.es_pattern.specs.Tree.{Tree}
use Rattle.es_pattern.specs.Spans.{IsFound}
use Rattle.pnp_core.specs.declared.manifest.PackageLocator.{PackageLocator}
use Rattle.pnp_core.specs.NormalizePath.{location_path}
use Rattle.pnp_core.specs.Manifest.{Contents, Row, rows}
use Rattle.pnp_core.specs.Owner.{owner, text_from}

-- the names of a path, as a manifest reads its text: `\` separates names too
abbrev pub names : Path → Path
names p = location_path (text_of p)

-- the names of a row's location
abbrev pub row_location : Row → Path
row_location row = location_path row.1.package_location

-- a location is a component prefix of a path: the path has its names, and maybe more below them
abbrev pub IsComponentPrefix : Path → Path → Type 0
IsComponentPrefix l p = (q : Path) × (p ≡ q ++ l)

-- a row claims a path: it isn't discarded, and its location is a component prefix of the path
pub record Claims (row : Row) (p : Path) : Type 0 where
  pub kept : row.1.discard_from_lookup ≡ false
  pub component_prefix : IsComponentPrefix (row_location row) p

-- the manifest has a pattern, and a part of the path's text from the manifest's folder is spanned by it
abbrev pub IsIgnored : Contents → Path → Type 0
IsIgnored m p =
    (pattern : Tree) × (m.ignore_pattern_data ≡ Some pattern)
    × IsFound pattern (chars (text_from m.manifest_dir (text_of p)))

-- A locator owns a path: the path isn't ignored, and it is the locator of a row that claims the path. No row that
-- claims the path has a longer location, and no later one has an equal location.
pub record Owns (m : Contents) (p : Path) (l : PackageLocator) : Type 0 where
  pub watched : ¬ IsIgnored m p
  pub earlier : List Row
  pub row : Row
  pub later : List Row
  pub in_order : rows m.package_registry_data ≡ earlier ++ row ∷ later
  pub locator : row.0 ≡ l
  pub claims : Claims row (names p)
  pub longest :
      All
      (λ other. Claims other (names p) → length (row_location other) ≤ length (row_location row))
      (rows m.package_registry_data)
  pub last : All (λ other. Claims other (names p) → row_location other ≢ row_location row) later

-- the owner of a path is the one locator that owns it, and there is none exactly where nothing owns the path
pub record OwnerOwns : Type 0 where
  pub owned : (m : Contents) (p : Path) (l : PackageLocator) → (owner m p ≡ Some l) ↔ Owns m p l
  pub unowned :
      (m : Contents) (p : Path) → (owner m p ≡ None) ↔ ((l : PackageLocator) → ¬ Owns m p l)
  pub one : (m : Contents) (p : Path) (k l : PackageLocator) → Owns m p k → Owns m p l → k ≡ l
