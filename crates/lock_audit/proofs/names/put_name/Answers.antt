use Rattle.pnp_core.specs.Manifest.{locator}
use Rattle.lock_audit.proofs.NameSets.{adds_one}
use Rattle.lock_audit.proofs.names.put_name.Goals as goal

pub returns : goal.returns
returns c =
    adds_one _ _ (locator c.args.name.now c.args.reference.now)
    (rw c.plain_reference-reference.ensures at c.in_ok-put_resolution.ensures)
    (rw c.plain_reference-reference.ensures at c.in_ok-put_release.ensures)
