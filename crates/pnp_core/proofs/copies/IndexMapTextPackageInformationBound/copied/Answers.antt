use Rattle.pnp_core.proofs.Copying.{told_whole}
use Rattle.pnp_core.proofs.copies.IndexMapTextPackageInformationBound.copied.Goals as goal

pub returns : goal.returns
returns c = told_whole c.in_ok-copy.copy.entries c.args.self.now.entries c.in_ok-copy.ensures
