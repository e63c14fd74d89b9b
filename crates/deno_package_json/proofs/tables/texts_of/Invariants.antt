use Rattle.std.proofs.Common.{◌≡◌, ◌++◌, drop}
use Rattle.serde_json.specs.View.{items_view}
use Rattle.deno_package_json.specs.Fields.{texts_of}
use Rattle.deno_package_json.proofs.tables.texts_of.Given as goal

-- what is read, and what is left to read
abbrev pub invariant-loop-item : goal.invariant-loop-item
invariant-loop-item l =
    l.texts.items ++ texts_of (items_view (drop l.item-index l.items)) ≡ texts_of (items_view l.items)
