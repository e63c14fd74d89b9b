use Rattle.std.proofs.Common.{◌≡◌, [], bytes_eq}
use Rattle.serde_json.specs.View.{members_view}
use Rattle.indexmap.specs.IndexMap.{insert_all}
use Rattle.deno_package_json.specs.Fields.{table_of}
use Rattle.deno_package_json.proofs.tables.table_of.Given as goal

-- what is left to read goes into what is read
abbrev pub invariant-loop-name : goal.invariant-loop-name
invariant-loop-name l =
    (goal.iterator-loop-name).can_next l.name-iterator ×
    (goal.iterator-loop-name).is_finite l.name-iterator ×
    (insert_all bytes_eq l.table.entries (table_of (members_view l.name-iterator)) ≡ insert_all bytes_eq []
    (table_of (members_view l.members.entries)))
