use Rattle.std.proofs.Common.{ap, ◌++◌, ◌∙◌}
use Rattle.sugar_path.specs.Path.{with_slash}
use Rattle.sugar_path.specs.Route.{place}
use Rattle.sugar_path.proofs.Rooms.{place-below}
use Rattle.sugar_path.proofs.places.place_below.Goals as goal

pub returns : goal.returns
returns c =
    let folder = c.or_here-folder.result.now in
    c.place_in.ensures
    ∙ ap place (c.in_ok-push_part.ensures ∙ ap (λ t. with_slash t ++ c.args.path.now)
    (c.in_ok-extend_from_slice.ensures.items ∙ ap (λ t. t ++ folder) c.in_ok-text.ensures.items
    ∙ c.or_here-folder.ensures))
    ∙ place-below c.args.folder.now c.args.path.now c.requires
