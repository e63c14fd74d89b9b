use Rattle.resolver_core.proofs.Versions.{versions_alike as law}
use Rattle.resolver_core.proofs.laws.versions_alike.Goals as goal

pub returns : goal.returns
returns c = law
