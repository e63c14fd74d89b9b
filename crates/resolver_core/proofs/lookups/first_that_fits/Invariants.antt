use Rattle.std.proofs.Common.{◌≡◌, drop}
use Rattle.resolver_core.specs.Pattern.{fits}
use Rattle.resolver_core.specs.Lookups.{first_passing}
use Rattle.resolver_core.proofs.lookups.first_that_fits.Given as goal

-- what is found at all places is found at those that are left
abbrev pub invariant-loop-place : goal.invariant-loop-place
invariant-loop-place l =
    first_passing (fits l.version l.specifier) l.patterns l.places ≡ first_passing (fits l.version l.specifier)
    l.patterns (drop l.place-index l.places)
