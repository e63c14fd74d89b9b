use Rattle.std.proofs.Common.{◌≡◌, drop}
use Rattle.json.specs.Value.{items_view, members_view}
use Rattle.json_reading.specs.Borrowed.{items_have_number, members_have_number}
use Rattle.json_reading.proofs.borrowed.+numbers.Given as goal

-- what is left decides
abbrev pub invariant-items_hold-loop-item : goal.invariant-items_hold-loop-item
invariant-items_hold-loop-item l =
    items_have_number (items_view l.items) ≡ items_have_number (items_view (drop l.item-index l.items))

abbrev pub invariant-members_hold-loop-member : goal.invariant-members_hold-loop-member
invariant-members_hold-loop-member l =
    members_have_number (members_view l.members) ≡ members_have_number (members_view (drop l.member-index l.members))
