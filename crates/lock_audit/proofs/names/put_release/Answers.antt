use Rattle.std.proofs.Common.{◌||◌, ◌&&◌, bytes_eq, sym, ap, ◌∙◌}
use Rattle.lock_checks.proofs.EntryPlaces.{lent_at}
use Rattle.lock_audit.specs.Names.{contains_release}
use Rattle.lock_audit.proofs.NameSets.{cond_or, released, unreleased}
use Rattle.lock_audit.proofs.names.put_release.Goals as goal

pub returns-in_default : goal.returns-in_default
returns-in_default c = λ named version.
    ap (λ b. b || contains_release c.args.releases.now named version)
    (sym (unreleased c.args.name.now c.args.reference.now named version c.in_default.ensures))

pub returns : goal.returns
returns c = λ named version.
    c.in_ok-insert.ensures.updates.0 (lent_at named, lent_at version)
    ∙ cond_or (bytes_eq c.args.name.now named && bytes_eq c.in-Some.version.now version)
    (contains_release c.args.releases.now named version)
    ∙ ap (λ b. b || contains_release c.args.releases.now named version)
    (released c.args.name.now c.args.reference.now c.in-Some.version.now named version c.in-Some.ensures)
