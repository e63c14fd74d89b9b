use Rattle.std.proofs.Common.{◌≡◌, rules}
use Rattle.json.specs.Json.{array}
use Rattle.json.specs.Value.{value_view, items_view}
use Rattle.json.specs.declared.value.Value.{the_lemmas}
use Rattle.json_reading.proofs.BorrowedData.{array-told}
use Rattle.json_reading.proofs.given_up.into_items.Goals as goal

pub returns-in-Array : goal.returns-in-Array
returns-in-Array c =
    let is : value_view c.args.value ≡ array (items_view c.in-Array.items.items) = search (rules, the_lemmas) in
    array-told c.args.value c.in-Array.items.items is
