use Rattle.resolver_core.specs.declared.refusal.TsRefusal.TheVariants.{Inner}
use Rattle.resolve_stack.proofs.Raising.{mapped_seen}
use Rattle.resolve_stack.proofs.import.inner_refusal.Goals as goal

pub returns-in-Err : goal.returns-in-Err
returns-in-Err c = rw c.in-Err.is (mapped_seen Inner _ _ _ (λ x y h. h) c.map_refused.ensures)
