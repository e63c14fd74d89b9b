use Rattle.std.proofs.Common.{◌∙◌}
use Rattle.resolver_core.proofs.Fitting.{by_lengths-longest}
use Rattle.resolver_core.proofs.lookups.Patterns.longest.Goals as goal

pub returns : goal.returns
returns c =
    rw (← c.self.view_is) (rw (c.as_slice.ensures.value, ← c.self.view_is) at c.by_lengths.ensures
    ∙ by_lengths-longest c.args.version c.args.specifier.now c.self.inside.given c.self.inside.lookups.lengths.items
    c.self.invariant.0.known c.self.invariant.1)
