use Rattle.std.proofs.Common.{ap, ◌∙◌}
use Rattle.sugar_path.proofs.SharedTexts.{way-written, rest-written, none-written}
use Rattle.sugar_path.proofs.ways.way_between.Goals as goal
use Rattle.sugar_path.proofs.ways.way_between.Goals.{in-Some+in_ok-extend_from_slice-in-Some, in-None}

pub returns : goal.returns
returns c = λ r s from to.
    way-written c.parts_of_place.result c.parts_of_place-2.result c.past_shared.result.0 c.past_shared.result.1 r s
    c.parts_left.result c.match-rest.text.items
    (c.parts_of_place.ensures r from) (c.parts_of_place-2.ensures s to) c.past_shared.ensures.way
    c.past_shared.ensures.apart c.parts_left.ensures
    (elim c.match-rest.branch [
      | in-Some+in_ok-extend_from_slice-in-Some w ↦
          rest-written c.past_shared.result.1 w.in-Some.rest c.parts_left.result c.in_ok-text.text.items
          c.match-rest.text.items w.in-Some.is c.in_ok-text.ensures
          (ap (λ v. v.items) w.text-is ∙ w.in_ok-extend_from_slice-in-Some.ensures.items)
      | in-None w ↦ none-written c.past_shared.result.1 c.parts_left.result _ c.in_ok-text.text.items
          c.match-rest.text.items w.in-None.is c.in_ok-text.ensures c.in_ok-text.text.ok.0
          (ap (λ v. v.items) w.text-is ∙ w.pop-slash.ensures.rest)
    ])
