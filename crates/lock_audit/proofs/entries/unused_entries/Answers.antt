use Rattle.std.proofs.Common.{map, not, ap, ◌∙◌}
use Rattle.std.specs.Prelude.{filter}
use Rattle.lock_checks.proofs.FirstPlaces.{take_whole}
use Rattle.lock_audit.specs.Entries.{has_name, locators_of, unused_of}
use Rattle.lock_audit.proofs.UnusedEntries.{unused_more}
use Rattle.lock_audit.proofs.entries.unused_entries.Goals as goal

pub loop-entry-preserved : goal.loop-entry-preserved
loop-entry-preserved c =
    let locators = locators_of c.args.manifest.now.package_registry_data in
    unused_more (has_name c.args.lock.now.version locators) c.entries-entries.result.now c.loop-entry.entry-index
    c.entry-item.result c.loop-entry.unused.items c.put_unless_named.new.unused.items c.is_named-named.result
    c.loop-entry-test.true c.entry-item.is c.loop-entry.invariant
    (c.is_named-named.ensures locators c.in_ok-names.ensures
    ∙ ap (λ version. has_name version locators c.entry-item.result) c.version.ensures)
    c.in_ok-put_unless_named.ensures

pub returns : goal.returns
returns c =
    let locators = locators_of c.args.manifest.now.package_registry_data in
    c.from.ensures ∙ c.loop-entry.invariant
    ∙ ap (λ es. map unused_of (filter (λ entry. not (has_name c.args.lock.now.version locators entry)) es))
    (take_whole c.entries-entries.result.now c.loop-entry.entry-index c.loop-entry-test.false
    ∙ c.entries-entries.ensures)
