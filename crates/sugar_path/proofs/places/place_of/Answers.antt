use Rattle.std.proofs.Common.{ap, ◌∙◌}
use Rattle.sugar_path.specs.Route.{place}
use Rattle.sugar_path.proofs.Rooms.{place-or_dot}
use Rattle.sugar_path.proofs.places.place_of.Goals as goal

pub returns : goal.returns
returns c =
    c.place_in.ensures ∙ ap place (c.in_ok-text.ensures.items ∙ c.or_here.ensures) ∙ place-or_dot c.args.path.now
