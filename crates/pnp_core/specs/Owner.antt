-- Which package owns a path.
use Rattle.std.specs.Prelude.{
  ◌≡◌,
  ℕ,
  Bool,
  false,
  not,
  ◌&&◌,
  if◌then◌else◌,
  IsTrue,
  IsSome,
  List,
  [],
  ◌∷◌,
  Option,
  Some,
  None,
}
use Rattle.std.specs.List.{AllByRecursion}
use Rattle.sugar_path.specs.Path.{Path, IsCleanPath, is_absolute, path_eq, text_of}
use Rattle.std.specs.Str.{chars}
use Rattle.sugar_path.specs.Relative.{relative_from}
use Rattle.es_pattern.specs.Tree.{Tree}
use Rattle.es_pattern.specs.Found.{is_found}
use Rattle.pnp_core.specs.declared.manifest.PackageLocator.{PackageLocator}
use Rattle.pnp_core.specs.NormalizePath.{location_path, normalize_path}
use Rattle.std.specs.Option.{option_or}
use Rattle.pnp_core.specs.Manifest.{Contents, Row, rows, top_level, package_at}

-- a row that isn't discarded owns its location
abbrev pub owns : Row → Path → Bool
owns row l = not row.1.discard_from_lookup && path_eq (location_path row.1.package_location) l

-- the last of the rows that own a location
abbrev pub last_at : List Row → Path → Option PackageLocator
last_at [] l = None
last_at (row ∷ rest) l = option_or (last_at rest l) (if owns row l then Some row.0 else None)

-- the nearest of a path and the folders above it that is the location of rows; the last of them owns it
abbrev pub nearest_owner : List Row → Path → Option PackageLocator
nearest_owner rs [] = last_at rs []
nearest_owner rs (n ∷ p) = option_or (last_at rs (n ∷ p)) (nearest_owner rs p)

-- a path's text as it is written from a folder, in normal form: `.` is the folder itself, and what stands beside it
-- begins with `..`
abbrev pub text_from : List ℕ → List ℕ → List ℕ
text_from folder t = normalize_path (relative_from folder folder t)

abbrev pub is_found_by : Option Tree → List ℕ → Bool
is_found_by None t = false
is_found_by (Some pattern) t = is_found pattern (chars t)

-- the manifest's pattern is found in the path's text from its folder, so nothing owns the path
unfoldable pub is_ignored : Contents → List ℕ → Bool
is_ignored m t = is_found_by m.ignore_pattern_data (text_from m.manifest_dir t)

-- the owner of the path that an absolute text names; `\` separates names there, as in a manifest
abbrev pub owner_of_text : Contents → List ℕ → Option PackageLocator
owner_of_text m t =
    if is_ignored m t then None
    else nearest_owner (rows m.package_registry_data) (location_path t)

abbrev pub owner : Contents → Path → Option PackageLocator
owner m p = owner_of_text m (text_of p)

-- a row's location is an absolute text in normal form
abbrev pub IsLocated : Row → Type 0
IsLocated row =
    IsTrue (is_absolute row.1.package_location)
    × (normalize_path row.1.package_location ≡ row.1.package_location)

-- A manifest that was loaded: its folder is clean and absolute, its rows are located, and the top-level package has a
-- row.
pub record IsReady (m : Contents) : Type 0 where
  pub folder : IsCleanPath m.manifest_dir
  pub located : AllByRecursion IsLocated (rows m.package_registry_data)
  pub top_level_row : IsSome (package_at m.package_registry_data top_level)
