use Rattle.std.proofs.lemmas.List.{take_all}
use Rattle.resolver_core.proofs.Keeping.{kept-reverse, falling-reverse}
use Rattle.resolver_core.proofs.lookups.Lookups.of.Goals as goal

pub returns-clause-kept : goal.returns-clause-kept
returns-clause-kept c =
    let kept = rw (take_all c.loop-place.place c.args.patterns.now c.loop-place-test.false) at c.loop-place.invariant in
    kept-reverse c.args.patterns.now c.loop-place.noted.exact c.loop-place.noted.starred c.loop-place.noted.lengths.keys
    c.in_ok-lengths.lengths.items c.in_ok-lengths.ensures.alike kept

pub returns-clause-falls : goal.returns-clause-falls
returns-clause-falls c =
    rw c.in_ok-lengths.ensures.alike (falling-reverse c.loop-place.noted.lengths.keys c.in_ok-lengths.ensures.rising)
