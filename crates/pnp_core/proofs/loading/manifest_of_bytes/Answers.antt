use Rattle.std.proofs.Common.{◌∙◌}
use Rattle.pnp_core.proofs.Hydrations.{reading-text, reading-other}
use Rattle.pnp_core.proofs.loading.manifest_of_bytes.Goals as goal

pub returns-in-Ok-clause-decided : goal.returns-in-Ok-clause-decided
returns-in-Ok-clause-decided c =
    let utf8 = rw c.as_slice.ensures at c.in-Ok.ensures.1 in
    rw (reading-text _ c.args.path.now utf8) (rw (c.in-Ok.ensures.0 ∙ c.as_slice.ensures) at
    c.manifest_of_text.ensures.decided)

pub returns-in-Err-clause-decided : goal.returns-in-Err-clause-decided
returns-in-Err-clause-decided c =
    let other = rw c.as_slice.ensures at c.in-Err.ensures in
    reading-other _ c.args.path.now other
