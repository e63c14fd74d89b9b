use Rattle.std.proofs.Common.{ap, ◌∙◌}
use Rattle.sugar_path.specs.Path.{text_of}
use Rattle.pnp_core.specs.Owner.{owner_of_text}
use Rattle.pnp_core.proofs.Ignored.{text_of-path_in}
use Rattle.pnp_core.proofs.owner.find_locator.Goals as goal

pub returns : goal.returns
returns c =
    c.in_ok-owner.ensures
    ∙ ap (owner_of_text c.args.manifest.now) (ap text_of c.in_ok-path.ensures
    ∙ text_of-path_in c.args.path.now c.requires.clean)
