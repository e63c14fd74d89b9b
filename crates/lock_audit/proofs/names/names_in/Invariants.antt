use Rattle.std.proofs.Common.{map}
use Rattle.lock_audit.specs.declared.names.Names.{Names}
use Rattle.lock_audit.specs.Entries.{locators_of}
use Rattle.lock_audit.specs.Names.{Adds}
use Rattle.lock_audit.proofs.names.names_in.Given as goal

-- with the names of the rows that are left, they have those of all
abbrev pub invariant-loop-name : goal.invariant-loop-name
invariant-loop-name l =
    (goal.iterator-loop-name).can_next l.name-iterator × (goal.iterator-loop-name).is_finite l.name-iterator
    × ((whole : Names) → Adds l.names whole (locators_of (map (λ named. (named.0, named.1.entries)) l.name-iterator))
    → Adds l.initial.names whole (locators_of (map (λ named. (named.0, named.1.entries)) l.registry.entries)))
