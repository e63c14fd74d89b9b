use Rattle.std.proofs.Common.{◌≡◌, ◌∙◌, sym}
use Rattle.resolver_core.specs.Lookups.{places_from}
use Rattle.resolver_core.specs.Pattern.{is_exactly}
use Rattle.resolver_core.proofs.Listings.{first-none, first-some}
use Rattle.resolver_core.proofs.lookups.Patterns.exactly.Goals as goal

pub returns-in-Some : goal.returns-in-Some
returns-in-Some c =
    let places : c.at-places.result.now ≡ places_from (is_exactly c.args.specifier.now) 0 c.self.inside.given =
    c.at-places.ensures ∙ rw c.as_bytes.ensures.value (c.self.invariant.0.exactly c.args.specifier.now) in
    rw (
      ← c.self.view_is,
      ← first-some (is_exactly c.args.specifier.now) c.self.inside.given c.at-places.result.now
          c.in-Some.place.now places (sym c.in-Some.ensures.value),
      ← c.as_slice.ensures,
    ) c.pattern_at.ensures

pub returns-in-None : goal.returns-in-None
returns-in-None c =
    let places : c.at-places.result.now ≡ places_from (is_exactly c.args.specifier.now) 0 c.self.inside.given =
    c.at-places.ensures ∙ rw c.as_bytes.ensures.value (c.self.invariant.0.exactly c.args.specifier.now) in
    rw (← c.self.view_is) (sym (first-none (is_exactly c.args.specifier.now) c.self.inside.given c.at-places.result.now
    places (sym c.in-None.ensures.value)))
