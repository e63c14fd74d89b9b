use Rattle.std.proofs.Common.{◌++◌, ap}
use Rattle.sugar_path.specs.Path.{parts}
use Rattle.sugar_path.specs.Component.{pieces, components_of}
use Rattle.sugar_path.proofs.component.Components.of.Goals as goal

pub returns : goal.returns
unfolding components_of
returns c = ap (λ xs. xs ++ pieces (parts c.args.path.now)) c.beginning_of.ensures
