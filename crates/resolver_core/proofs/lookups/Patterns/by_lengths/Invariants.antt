use Rattle.std.proofs.Common.{◌≡◌, drop}
use Rattle.resolver_core.specs.Lookups.{by_lengths}
use Rattle.resolver_core.proofs.lookups.Patterns.by_lengths.Given as goal

-- what is found by all lengths is found by those that are left
abbrev pub invariant-loop-length : goal.invariant-loop-length
invariant-loop-length l =
    by_lengths l.version l.specifier l.self l.lengths ≡ by_lengths l.version l.specifier l.self
    (drop l.length-index l.lengths)
