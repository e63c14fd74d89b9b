use Rattle.std.proofs.Common.{rules}
use Rattle.pnp_core.proofs.Owners.{at-registry}
use Rattle.pnp_core.proofs.registry.package_of.Goals as goal

pub returns-in_err-references : goal.returns-in_err-references
returns-in_err-references c =
    let none = rw c.in_err-references.was at c.get.ensures.value in
    rw (← c.manifest.view_is, at-registry, ← none) (search rules)

pub returns : goal.returns
returns c =
    let some = rw c.in_ok-references.was at c.get.ensures.value in
    rw (← c.manifest.view_is, at-registry, ← some) c.get-2.ensures.value
