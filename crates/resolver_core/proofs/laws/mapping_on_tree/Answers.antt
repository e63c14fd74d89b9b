use Rattle.resolver_core.proofs.MappingLaws.{mapping_on_tree as law}
use Rattle.resolver_core.proofs.laws.mapping_on_tree.Goals as goal

pub returns : goal.returns
returns g c = law _
