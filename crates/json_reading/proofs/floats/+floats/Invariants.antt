use Rattle.std.proofs.Common.{◌≡◌, drop}
use Rattle.serde_json.specs.View.{items_view, members_view}
use Rattle.serde_json.specs.Written.{items_have_float, members_have_float}
use Rattle.json_reading.proofs.floats.+floats.Given as goal

-- what is left decides
abbrev pub invariant-items_hold-loop-item : goal.invariant-items_hold-loop-item
invariant-items_hold-loop-item l =
    items_have_float (items_view l.items) ≡ items_have_float (items_view (drop l.item-index l.items))

abbrev pub invariant-members_hold-loop-key : goal.invariant-members_hold-loop-key
invariant-members_hold-loop-key l =
    (goal.iterator-members_hold-loop-key).can_next l._key-iterator ×
    (goal.iterator-members_hold-loop-key).is_finite l._key-iterator ×
    (members_have_float (members_view l.members.entries) ≡ members_have_float (members_view l._key-iterator))
