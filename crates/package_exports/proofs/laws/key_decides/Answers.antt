use Rattle.package_exports.proofs.KeyLaws.{key_decides as law}
use Rattle.package_exports.proofs.laws.key_decides.Goals as goal

pub returns : goal.returns
returns c = law
