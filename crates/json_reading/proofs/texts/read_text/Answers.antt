use Rattle.std.proofs.Common.{◌≡◌, ◌∙◌, false, rules}
use Rattle.json.specs.Value.{value_view}
use Rattle.json_reading.specs.Borrowed.{has_number}
use Rattle.json_reading.proofs.Numberless.{of_json-data_of, has_float-data_of}
use Rattle.json_reading.proofs.texts.read_text.Goals as goal

pub returns-then-not-holds_number-clause-value : goal.returns-then-not-holds_number-clause-value
returns-then-not-holds_number-clause-value c =
    let none : has_number (value_view c.in_ok-value.value) ≡ false = search rules in
    c.in_ok-value.ensures.value ∙ of_json-data_of (value_view c.in_ok-value.value) none

pub returns-then-not-holds_number-clause-floats : goal.returns-then-not-holds_number-clause-floats
returns-then-not-holds_number-clause-floats c =
    let none : has_number (value_view c.in_ok-value.value) ≡ false = search rules in
    has_float-data_of (value_view c.in_ok-value.value) none
