use Rattle.std.proofs.Common.{◌≡◌, ◌+◌, not, filter, length, sym, ap, ◌∙◌, arith}
use Rattle.session_core.specs.Numbered.{kept_in, entries_in}
use Rattle.session_core.specs.Entries.{is_asking}
use Rattle.session_core.proofs.Lists.{filter-all}
use Rattle.session_core.proofs.Numbers.{filter-removed, length-removed}
use Rattle.session_core.proofs.latest.Latest.drop_asking.Goals as goal

pub loop-number-smaller : goal.loop-number-smaller
loop-number-smaller c =
    let n = c.in-Some.ensures.number in
    let less = length-removed c.in-Some.number c.loop-number.self.entries n.entry n.found in
    let left : length c.take_out.new.self.entries + 1 ≡ length c.loop-number.self.entries =
    ap (λ es. length es + 1) c.take_out.ensures.entries ∙ less in
    omega (arith, left)

pub loop-number-preserved : goal.loop-number-preserved
loop-number-preserved c =
    let n = c.in-Some.ensures.number in (
      ap (λ es. filter (λ e. not (is_asking c.args.path.now e)) (entries_in es)) c.take_out.ensures.entries
          ∙ filter-removed (is_asking c.args.path.now) c.in-Some.number c.loop-number.self.entries n.entry n.found
          n.passes
          ∙ c.loop-number.invariant.0,
      c.take_out.ensures.capacity ∙ c.loop-number.invariant.1,
    )

pub returns-clause-left : goal.returns-clause-left
returns-clause-left c =
    sym (filter-all (is_asking c.args.path.now) (kept_in c.loop-number.self) c.in_default.ensures.none)
    ∙ c.loop-number.invariant.0
