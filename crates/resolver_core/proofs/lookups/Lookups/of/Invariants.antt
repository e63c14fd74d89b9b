use Rattle.std.proofs.Common.{take}
use Rattle.resolver_core.specs.Lookups.{IsKeptFor}
use Rattle.resolver_core.proofs.lookups.Lookups.of.Given as goal

-- what is noted so far is kept for the patterns so far
abbrev pub invariant-loop-place : goal.invariant-loop-place
invariant-loop-place l = IsKeptFor (take l.place l.patterns) l.noted.exact l.noted.starred l.noted.lengths.keys
