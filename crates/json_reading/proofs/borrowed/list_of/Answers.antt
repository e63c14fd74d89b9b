use Rattle.std.proofs.Common.{◌≡◌, sym, ◌∙◌, ap, append-nil, ◌++◌, subst}
use Rattle.json_reading.specs.Kinds.{NamesRise}
use Rattle.json_reading.proofs.BorrowedData.{rise-sorted}
use Rattle.json_reading.proofs.borrowed.list_of.Goals as goal

pub returns-clause-rise : goal.returns-clause-rise
returns-clause-rise c =
    let all : c.loop-entry.list.items ≡ c.args.map.entries =
    sym (append-nil c.loop-entry.list.items) ∙ ap (λ left. c.loop-entry.list.items ++ left)
    (sym c.in-None.ensures.steps.0) ∙ c.loop-entry.invariant.2 in
    subst NamesRise (sym all) (rise-sorted c.args.map.entries c.len.ensures.ordered)
