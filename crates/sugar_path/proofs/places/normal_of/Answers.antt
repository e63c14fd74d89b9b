use Rattle.std.proofs.Common.{ap, ◌∙◌}
use Rattle.sugar_path.specs.Route.{normal}
use Rattle.sugar_path.proofs.Rooms.{normal-or_dot}
use Rattle.sugar_path.proofs.places.normal_of.Goals as goal

pub returns : goal.returns
returns c =
    c.normal_in.ensures ∙ ap normal (c.in_ok-text.ensures.items ∙ c.or_here.ensures) ∙ normal-or_dot c.args.path.now
