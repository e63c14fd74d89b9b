use Rattle.tree_core.proofs.Asking.{decided}
use Rattle.resolver_core.proofs.laws.trails_suffice.Goals as goal

pub returns : goal.returns
returns g c = record {
  decides = λ t u view base specifier agree. (decided t u (g.R.Resolve.order view base specifier) agree).0;
  alike = λ t u view base specifier agree. (decided t u (g.R.Resolve.order view base specifier) agree).1;
}
