use Rattle.std.proofs.Common.{◌≡◌, ◌+◌, ◌*◌, drop}
use Rattle.serde_json.specs.Data.{depth, items_depth, members_depth}
use Rattle.serde_json.specs.View.{view, items_view, members_view}
use Rattle.package_exports.specs.Exported.{first_target, targets, by_conditions}
use Rattle.package_exports.proofs.exports.+targets.Given as goal

-- each step goes into a value, or to a further look at the same one
abbrev pub decreases-target : goal.decreases-target
decreases-target l = 3 * depth (view l.value.now)

abbrev pub decreases-first_target : goal.decreases-first_target
decreases-first_target l = 3 * items_depth (items_view l.items.now) + 1

abbrev pub decreases-by_conditions : goal.decreases-by_conditions
decreases-by_conditions l = 3 * members_depth (members_view l.members.now.entries) + 2

abbrev pub decreases-under : goal.decreases-under
decreases-under l = 3 * members_depth (members_view l.members.now.entries) + 1

-- what is left decides
abbrev pub invariant-first_target-loop-item : goal.invariant-first_target-loop-item
invariant-first_target-loop-item l =
    first_target l.conditions (items_view l.items) ≡ first_target l.conditions (items_view (drop l.item-index l.items))

abbrev pub invariant-by_conditions-loop-condition : goal.invariant-by_conditions-loop-condition
invariant-by_conditions-loop-condition l =
    by_conditions l.conditions (targets l.conditions (members_view l.members.entries))
    ≡ by_conditions (drop l.condition-index l.conditions) (targets l.conditions (members_view l.members.entries))
