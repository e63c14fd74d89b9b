-- Where the package of a row lies.
use Rattle.std.specs.Prelude.{ℕ, List, [], Option, Some, None, option_map, option_and_then}
use Rattle.sugar_path.specs.Path.{Path, clean}
use Rattle.pnp_core.specs.declared.virtual_path.VPath.{VPath}
use Rattle.pnp_core.specs.declared.virtual_path.VPath.TheVariants.{Zip, Virtual, Native}
use Rattle.pnp_core.specs.declared.manifest.PackageLocator.{PackageLocator}
use Rattle.pnp_core.specs.Manifest.{Contents, location_of}
use Rattle.pnp_core.specs.VirtualPath.{virtual_path, virtual_physical}

-- the text that leads to the bytes of a path that isn't inside an archive
abbrev pub physical_text : VPath → Option (List ℕ)
physical_text (Zip info) = None
physical_text (Virtual info) = Some (virtual_physical info)
physical_text (Native t) = Some t

-- the place of a row's location; None where it is inside an archive
unfoldable pub physical_place : List ℕ → Option Path
physical_place location = option_map (clean []) (physical_text (virtual_path location))

-- the folder of a package: the place of its row's location, where the manifest has the row and the location is in no
-- archive
abbrev pub place_of : Contents → PackageLocator → Option Path
place_of manifest l = option_and_then physical_place (location_of manifest l)
