use Rattle.package_exports.proofs.KeyLaws.{own_key_decides as law}
use Rattle.package_exports.proofs.laws.own_key_decides.Goals as goal

pub returns : goal.returns
returns c = law
