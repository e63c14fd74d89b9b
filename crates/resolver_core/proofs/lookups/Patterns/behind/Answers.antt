use Rattle.std.proofs.Common.{◌≡◌, ◌∙◌, ◌≤◌, ◌<◌, sym, length, take, arith}
use Rattle.std.proofs.lemmas.Grind.{common_steps}
use Rattle.resolver_core.specs.Pattern.{fits}
use Rattle.resolver_core.specs.Lookups.{is_behind, places_from}
use Rattle.resolver_core.proofs.Fitting.{found-behind, none-behind}
use Rattle.resolver_core.proofs.Listings.{first_passing-places}
use Rattle.resolver_core.proofs.lookups.Patterns.behind.Goals as goal

pub returns-in-Some : goal.returns-in-Some
returns-in-Some c =
    let within : c.args.length ≤ length c.args.specifier.now = grind (arith, common_steps) in
    let front : c.in-Some.front.now ≡ take c.args.length c.args.specifier.now = grind (arith, common_steps) in
    let places : c.at-places.result.now ≡ places_from (is_behind (take c.args.length c.args.specifier.now)) 0
    c.self.inside.given = c.at-places.ensures
    ∙ rw front (c.self.invariant.0.behind (take c.args.length c.args.specifier.now)) in
    rw (← c.self.view_is) (c.first_that_fits.ensures
    ∙ rw (c.as_slice.ensures, places) (first_passing-places (is_behind (take c.args.length c.args.specifier.now))
    (fits c.args.version c.args.specifier.now) c.self.inside.given
    ∙ found-behind c.args.version c.args.specifier.now c.args.length c.self.inside.given within))

pub returns-in-None : goal.returns-in-None
returns-in-None c =
    let short : length c.args.specifier.now < c.args.length = grind (arith, common_steps) in
    sym (none-behind c.args.version c.args.specifier.now c.args.length c.args.self.now short)
