use Rattle.std.proofs.Common.{ap, ◌∙◌}
use Rattle.serde_json.specs.Data.{object}
use Rattle.serde_json.proofs.Views.{view-Object}
use Rattle.deno_package_json.proofs.Copies.{members_view-copied}
use Rattle.deno_package_json.proofs.to_value.object_or_null.Goals as goal

pub returns-in_ok-clone-in-Some : goal.returns-in_ok-clone-in-Some
returns-in_ok-clone-in-Some c =
    rw c.in-Some.is (view-Object c.in_ok-clone-in-Some.field-0
    ∙ ap object (members_view-copied c.in-Some.members.entries c.in_ok-clone-in-Some.field-0.entries
    c.in_ok-clone-in-Some.ensures.cases))
