use Rattle.std.proofs.Common.{◌≡◌, map, not, take}
use Rattle.std.specs.Prelude.{filter}
use Rattle.lock_audit.specs.Entries.{has_name, locators_of, unused_of}
use Rattle.lock_audit.proofs.entries.unused_entries.Given as goal

-- what is told so far
abbrev pub invariant-loop-entry : goal.invariant-loop-entry
invariant-loop-entry l =
    l.unused.items ≡ map unused_of (filter (λ entry. not (has_name l.lock.version
    (locators_of l.manifest.package_registry_data) entry)) (take l.entry-index l.entries))
