use Rattle.std.proofs.Common.{◌≡◌}
use Rattle.serde_json.specs.View.{members_view}
use Rattle.deno_package_json.specs.Exports.{has_condition}
use Rattle.deno_package_json.proofs.exports.has_condition.Given as goal

-- what is left decides
abbrev pub invariant-loop-key : goal.invariant-loop-key
invariant-loop-key l =
    (goal.iterator-loop-key).can_next l.key-iterator ×
    (goal.iterator-loop-key).is_finite l.key-iterator ×
    (has_condition (members_view l.members.entries) ≡ has_condition (members_view l.key-iterator))
