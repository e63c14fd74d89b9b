use Rattle.resolve_stack.proofs.import.resolve_import.Goals as goal

pub returns : goal.returns
returns g c = rw c.new.ensures at c.resolve_import.ensures.decides
