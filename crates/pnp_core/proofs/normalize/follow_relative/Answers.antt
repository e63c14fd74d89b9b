use Rattle.std.proofs.Common.{◌≡◌, arith}
use Rattle.std.proofs.lemmas.Grind.{common_steps}
use Rattle.pnp_core.specs.Slashed.{names_of}
use Rattle.pnp_core.proofs.Routes.{ArePartsOf-part, by_relative_part}
use Rattle.pnp_core.proofs.normalize.follow_relative.Goals as goal

pub returns-in-Some : goal.returns-in-Some
returns-in-Some c =
    let step : names_of c.pop.new.self.items ≡ by_relative_part (names_of c.args.names.now.items) c.args.part.now =
    grind (arith, common_steps) in
    λ r h. ArePartsOf-part c.args.names.now.items c.pop.new.self.items c.args.part.now r step h

pub returns-in_ok-push-in_default : goal.returns-in_ok-push-in_default
returns-in_ok-push-in_default c =
    let step : names_of c.push-in_default.new.self.items ≡ by_relative_part (names_of c.args.names.now.items)
    c.args.part.now = grind (arith, common_steps) in
    λ r h. ArePartsOf-part c.args.names.now.items c.push-in_default.new.self.items c.args.part.now r step h
