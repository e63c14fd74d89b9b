use Rattle.std.proofs.Common.{ap, ◌∙◌}
use Rattle.npm_req.specs.Front.{before_all, is_blank}
use Rattle.npm_req.proofs.Endings.{boundary_of_place}
use Rattle.npm_req.proofs.requirement.meaning_of.Goals as goal

pub returns-else-is_tag-clause-place : goal.returns-else-is_tag-clause-place
returns-else-is_tag-clause-place c =
    let same = c.before_blanks-trimmed.ensures ∙ ap (before_all is_blank) c.after_blanks-from.ensures.value in
    let inside = rw (c.in-Err-Unexpected.field-0-is, same) at c.in-Err-Unexpected.ensures.inside in
    rw (same, c.after_blanks-from.ensures.value) (boundary_of_place c.args.text.now c.in-Err-Unexpected.left inside)
