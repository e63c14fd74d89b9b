use Rattle.std.proofs.Common.{[], map}
use Rattle.sugar_path.specs.Route.{Relative, route_by_parts}
use Rattle.pnp_core.specs.Slashed.{ArePartsOf}
use Rattle.pnp_core.proofs.normalize.relative_text.Given as goal

-- the names are the parts of the route so far
abbrev pub invariant-loop-part : goal.invariant-loop-part
invariant-loop-part l =
    (goal.iterator-loop-part).can_next l.part-iterator ×
    (goal.iterator-loop-part).is_finite l.part-iterator ×
    ArePartsOf l.names.items (route_by_parts (Relative 0 []) (map (λ x. x.now) l.yielded))
