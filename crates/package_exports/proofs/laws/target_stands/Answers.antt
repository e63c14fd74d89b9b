use Rattle.package_exports.proofs.Targets.{target_stands as law}
use Rattle.package_exports.proofs.laws.target_stands.Goals as goal

pub returns : goal.returns
returns c = law
