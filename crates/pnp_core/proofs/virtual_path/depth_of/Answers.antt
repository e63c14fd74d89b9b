use Rattle.std.proofs.Common.{◌∙◌}
use Rattle.pnp_core.proofs.VirtualPaths.{depth_of-parsed}
use Rattle.pnp_core.proofs.virtual_path.depth_of.Goals as goal

pub returns : goal.returns
returns c = c.ok.ensures.value ∙ depth_of-parsed c.args.segment.now c.parse.result c.parse.ensures.value.0
