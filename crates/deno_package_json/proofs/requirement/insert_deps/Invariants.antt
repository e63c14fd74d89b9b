use Rattle.std.proofs.Common.{◌≡◌}
use Rattle.std.specs.Prelude.{fold}
use Rattle.deno_package_json.specs.Message.{ArePlaced}
use Rattle.deno_package_json.specs.Requirements.{with_new}
use Rattle.deno_package_json.proofs.requirement.insert_deps.Given as goal

-- what is left goes behind what is there, and places are told all along
abbrev pub invariant-loop-name : goal.invariant-loop-name
invariant-loop-name l =
    (goal.iterator-loop-name).can_next l.name-iterator ×
    (goal.iterator-loop-name).is_finite l.name-iterator ×
    (fold with_new l.deps.entries l.name-iterator ≡ fold with_new l.initial.deps.entries l.table.entries) ×
    (ArePlaced l.initial.deps.entries → ArePlaced l.deps.entries)
