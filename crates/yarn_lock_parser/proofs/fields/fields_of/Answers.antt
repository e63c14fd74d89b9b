use Rattle.std.proofs.Common.{sym, refl}
use Rattle.yarn_lock_parser.specs.Item.{item_at}
use Rattle.yarn_lock_parser.specs.Fields.{fields_of}
use Rattle.yarn_lock_parser.proofs.Every.{some-none, some-more}
use Rattle.yarn_lock_parser.proofs.ItemRests.{item_at-shortens}
use Rattle.yarn_lock_parser.proofs.fields.fields_of.Goals as goal

pub returns-in_default : goal.returns-in_default
unfolding fields_of
returns-in_default c =
    let none = rw c.in_default.is at c.in_ok-first.ensures in
    rw (some-none item_at c.args.text.now (sym none)) refl

pub returns : goal.returns
unfolding fields_of
returns c =
    let found = rw c.in-Some.is at c.in_ok-first.ensures in
    let more = some-more item_at item_at-shortens c.args.text.now _ (sym found) in
    rw more (rw (c.in_ok-fields.ensures, c.put.ensures, c.new-fields.ensures) refl)
