-- Which entry of a lock names a package.
use Rattle.std.specs.Prelude.{ℕ, Bool, ◌==◌, ◌&&◌, ◌||◌, List, ◌++◌, Option, codes, bytes_eq, find}
use Rattle.yarn_lock_parser.specs.Entry.{Entry}
use Rattle.yarn_lock_parser.specs.Lock.{Lock}
use Rattle.pnp_core.specs.declared.manifest.PackageLocator.{PackageLocator}
use Rattle.lock_checks.specs.Reference.{plain_reference}

-- the entry is resolved to the name, `@` and the reference
abbrev pub has_resolution : Entry → List ℕ → List ℕ → Bool
has_resolution entry name reference = bytes_eq entry.resolved (name ++ codes "@" ++ reference)

-- the entry has the name, and the reference is `npm:` and the entry's version
abbrev pub has_release : Entry → List ℕ → List ℕ → Bool
has_release entry name reference = bytes_eq entry.name name && bytes_eq reference (codes "npm:" ++ entry.version)

-- An entry of a lock of some version names a package by its name and plain reference: by its resolution, or in a lock
-- of version 1 by its release.
abbrev pub names : Entry → ℕ → List ℕ → List ℕ → Bool
names entry version name reference =
    has_resolution entry name reference || ((version == 1) && has_release entry name reference)

-- an entry names a locator, whose reference is read without its virtual part
abbrev pub names_locator : Entry → ℕ → PackageLocator → Bool
names_locator entry version locator = names entry version locator.name (plain_reference locator.reference)

-- the first entry of a lock that names a locator
abbrev pub first_naming : Lock → PackageLocator → Option Entry
first_naming lock locator = find (λ entry. names_locator entry lock.version locator) lock.entries
