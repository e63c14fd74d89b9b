use Rattle.std.proofs.Common.{◌≡◌, length}
use Rattle.std.specs.List.{fold}
use denote.Text.{Utf8}
use denote.Shadow.{shadow}
use Rattle.yarn_lock_parser.specs.Front.{every}
use Rattle.yarn_lock_parser.specs.Item.{item_at}
use Rattle.yarn_lock_parser.specs.Fields.{with_item}
use Rattle.yarn_lock_parser.proofs.fields.with_further.Given as goal

-- what is left has the answer
abbrev pub invariant-loop-fields : goal.invariant-loop-fields
invariant-loop-fields l = shadow (Utf8 l.rest)
    × (fold with_item l.fields (every item_at l.rest).0 ≡ fold with_item l.fn.fields (every item_at l.text).0)

abbrev pub decreases-loop-fields : goal.decreases-loop-fields
decreases-loop-fields l = length l.rest
