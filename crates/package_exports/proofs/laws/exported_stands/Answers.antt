use Rattle.package_exports.proofs.KeyLaws.{exported_stands as law}
use Rattle.package_exports.proofs.laws.exported_stands.Goals as goal

pub returns : goal.returns
returns c = law
