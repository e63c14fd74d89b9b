use Rattle.std.proofs.Common.{◌≡◌, map}
use Rattle.sugar_path.specs.Path.{by_parts}
use Rattle.sugar_path.proofs.clean_path.CleanPath.follow_all.Given as goal

-- the parts so far lead here
abbrev pub invariant-loop-part : goal.invariant-loop-part
invariant-loop-part l =
    (goal.iterator-loop-part).can_next l.part-iterator ×
    (goal.iterator-loop-part).is_finite l.part-iterator ×
    (l.self ≡ by_parts l.fn.self (map (λ x. x.now) l.yielded))
