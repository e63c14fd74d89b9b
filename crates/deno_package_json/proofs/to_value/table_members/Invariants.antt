use Rattle.std.proofs.Common.{◌≡◌}
use Rattle.std.specs.Prelude.{fold}
use Rattle.serde_json.specs.Data.{no_members, put, string}
use Rattle.serde_json.specs.View.{members_view}
use Rattle.deno_package_json.proofs.to_value.table_members.Given as goal

-- what is left goes into what is there
abbrev pub invariant-loop-name : goal.invariant-loop-name
invariant-loop-name l =
    (goal.iterator-loop-name).can_next l.name-iterator ×
    (goal.iterator-loop-name).is_finite l.name-iterator ×
    (fold (λ found entry. put entry.0 (string entry.1) found) (members_view l.members.entries) l.name-iterator ≡ fold
    (λ found entry. put entry.0 (string entry.1) found) no_members l.table.entries)
