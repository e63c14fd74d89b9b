-- Which entries of a lock name no package of a manifest.
use Rattle.std.specs.Prelude.{ℕ, Bool, not, List, map, filter}
use Rattle.std.specs.List.{list_any}
use Rattle.lock_checks.specs.Naming.{names_locator}
use Rattle.pnp_core.specs.declared.manifest.PackageLocator.{PackageLocator}
use Rattle.pnp_core.specs.Manifest.{Contents, Registry, rows}
use Rattle.yarn_lock_parser.specs.Entry.{Entry}
use Rattle.yarn_lock_parser.specs.Lock.{Lock}
use Rattle.lock_audit.specs.declared.audited.Unused.{Unused}

-- the locators of a registry's rows, in its order
abbrev pub locators_of : Registry → List PackageLocator
locators_of registry = map (λ row. row.0) (rows registry)

-- an entry of a lock of some version names one of the packages
abbrev pub has_name : ℕ → List PackageLocator → Entry → Bool
has_name version locators entry = list_any (names_locator entry version) locators

abbrev pub unused_of : Entry → Unused
unused_of entry = record { name = entry.name; resolved = entry.resolved }

-- the entries that name no package of a manifest, in the lock's order
abbrev pub unused_entries : Lock → Contents → List Unused
unused_entries lock manifest =
    map unused_of (filter (λ entry. not (has_name lock.version (locators_of manifest.package_registry_data) entry))
    lock.entries)
