use Rattle.std.proofs.Common.{sym}
use Rattle.trail_bundle.proofs.LineCauses.{counts_behind, counts_not_behind, not_behind}
use Rattle.trail_bundle.proofs.decode.counts_on.Goals as goal

pub returns-in-Some-clause-some : goal.returns-in-Some-clause-some
returns-in-Some-clause-some c =
    counts_behind c.args.line.now c.in-Some.counts.now c.counts_in.result (sym c.in-Some.ensures)
    c.counts_in.ensures.some

pub returns-in-Some-clause-none : goal.returns-in-Some-clause-none
returns-in-Some-clause-none c =
    counts_not_behind c.args.line.now c.in-Some.counts.now c.counts_in.result (sym c.in-Some.ensures)
    c.counts_in.ensures.none

pub returns-in-None-clause-none : goal.returns-in-None-clause-none
returns-in-None-clause-none c = λ r q is. not_behind c.args.line.now (sym c.in-None.ensures) r q is
