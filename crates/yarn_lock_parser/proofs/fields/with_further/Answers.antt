use Rattle.std.proofs.Common.{sym, rules}
use Rattle.yarn_lock_parser.specs.Item.{item_at}
use Rattle.yarn_lock_parser.proofs.Every.{every-none, every-more}
use Rattle.yarn_lock_parser.proofs.ItemRests.{item_at-shortens}
use Rattle.yarn_lock_parser.proofs.fields.with_further.Goals as goal

pub loop-fields-smaller : goal.loop-fields-smaller
loop-fields-smaller c =
    let found = rw c.in-Some.is at c.in_ok-item.ensures in
    item_at-shortens _ _ (sym found)

pub loop-fields-preserved : goal.loop-fields-preserved
loop-fields-preserved c =
    let found = rw c.in-Some.is at c.in_ok-item.ensures in
    let more = every-more item_at item_at-shortens c.loop-fields.rest.now _ (sym found) in
    (search rules, rw c.put.ensures (rw more at c.loop-fields.invariant.1))

pub returns : goal.returns
returns c =
    let none = rw c.in_default.is at c.in_ok-item.ensures in
    rw (every-none item_at c.loop-fields.rest.now (sym none)) at c.loop-fields.invariant.1
