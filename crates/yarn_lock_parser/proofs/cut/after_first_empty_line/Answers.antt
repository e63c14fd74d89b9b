use Rattle.std.proofs.Common.{sym, ◌∙◌, rules}
use Rattle.yarn_lock_parser.proofs.Rests.{line_at-later}
use Rattle.yarn_lock_parser.proofs.Cuts.{first_empty-here, first_empty-none, first_empty-later}
use Rattle.yarn_lock_parser.proofs.cut.after_first_empty_line.Goals as goal

pub returns-in-Some : goal.returns-in-Some
returns-in-Some c =
    let here = rw c.in-Some.is at c.after_empty_line.ensures in
    sym (first_empty-here _ _ (sym here)) ∙ c.loop-behind.invariant.1

pub returns-in-None : goal.returns-in-None
returns-in-None c =
    let here = rw c.in_default.is at c.after_empty_line.ensures in
    sym (first_empty-none c.loop-behind.rest.now (sym here) (sym c.in-None.ensures)) ∙ c.loop-behind.invariant.1

pub loop-behind-smaller : goal.loop-behind-smaller
loop-behind-smaller c = (line_at-later _ _ (sym c.in-Some-line_at.ensures)).shorter

pub loop-behind-preserved : goal.loop-behind-preserved
loop-behind-preserved c =
    let here = rw c.in_default.is at c.after_empty_line.ensures in (
      search rules,
      sym (first_empty-later c.loop-behind.rest.now _ (sym here) (sym c.in-Some-line_at.ensures))
          ∙ c.loop-behind.invariant.1,
    )
