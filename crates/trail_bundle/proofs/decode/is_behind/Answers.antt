use Rattle.std.proofs.Common.{◌∙◌}
use Rattle.trail_bundle.proofs.Orders.{behind_last}
use Rattle.trail_bundle.proofs.decode.is_behind.Goals as goal

pub returns-in-Some : goal.returns-in-Some
returns-in-Some c =
    c.lt.ensures
    ∙ behind_last c.in-Some.last.now c.args.key.now.question c.args.replies.now.entries _ _ c.in-Some.ensures.all_up_to
    c.in-Some.ensures.last
