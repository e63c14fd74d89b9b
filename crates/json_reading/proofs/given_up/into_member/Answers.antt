use Rattle.std.proofs.Common.{◌≡◌, rules, sym, ap, ◌∙◌}
use Rattle.json.specs.Find as found
use Rattle.json.specs.Json.{object}
use Rattle.json.specs.Value.{value_view, members_view}
use Rattle.json.specs.declared.value.Value.{the_lemmas}
use Rattle.json_reading.proofs.BorrowedData.{member-given}
use Rattle.json_reading.proofs.given_up.into_member.Goals as goal

pub returns-in-Object : goal.returns-in-Object
returns-in-Object c =
    let is : value_view c.args.value ≡ object (members_view c.in-Object.members.items) = search (rules, the_lemmas) in
    member-given c.args.name.now c.args.value c.last_of.result
    (c.last_of.ensures ∙ sym (ap (found.get c.args.name.now) is))
