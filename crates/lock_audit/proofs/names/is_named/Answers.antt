use Rattle.std.proofs.Common.{sym, ap, ◌∙◌}
use Rattle.std.specs.HashSet.{contains_text}
use Rattle.lock_audit.specs.Names.{contains_release}
use Rattle.lock_audit.proofs.NameSets.{named_by_none, named_by_release, named_by_resolution}
use Rattle.lock_audit.proofs.names.is_named.Goals as goal

pub returns-then-contains : goal.returns-then-contains
returns-then-contains c = λ locators are.
    named_by_resolution c.args.names.now c.args.version c.args.entry.now locators are
    (ap (contains_text c.args.names.now.resolutions) (sym c.resolved.ensures) ∙ sym c.contains.ensures
    ∙ c.if-contains.true)

pub returns-then-version-eq1 : goal.returns-then-version-eq1
returns-then-version-eq1 c = λ locators are.
    c.contains-then-version-eq1.ensures
    ∙ ap (λ n. contains_release c.args.names.now.releases n c.version.result.now) c.name.ensures
    ∙ ap (contains_release c.args.names.now.releases c.args.entry.now.name) c.version.ensures
    ∙ named_by_release c.args.names.now c.args.version c.args.entry.now locators are
    (ap (contains_text c.args.names.now.resolutions) (sym c.resolved.ensures) ∙ sym c.contains.ensures
    ∙ c.if-contains.false)
    c.if-version-eq1.true

pub returns-else-version-eq1 : goal.returns-else-version-eq1
returns-else-version-eq1 c = λ locators are.
    named_by_none c.args.names.now c.args.version c.args.entry.now locators are
    (ap (contains_text c.args.names.now.resolutions) (sym c.resolved.ensures) ∙ sym c.contains.ensures
    ∙ c.if-contains.false)
    c.if-version-eq1.false
