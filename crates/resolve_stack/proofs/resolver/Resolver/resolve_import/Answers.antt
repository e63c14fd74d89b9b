use Rattle.resolve_stack.proofs.resolver.Resolver.resolve_import.Goals as goal

pub returns-clause-decides : goal.returns-clause-decides
returns-clause-decides g c = rw c.self.view_is at c.resolve_import_with.ensures
