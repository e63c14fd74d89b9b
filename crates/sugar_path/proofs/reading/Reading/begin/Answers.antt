use Rattle.std.proofs.Common.{drop, sym, ap, ◌∙◌}
use Rattle.sugar_path.specs.Path.{is_absolute, parts}
use Rattle.sugar_path.specs.Route.{route_by_parts, route_start}
use Rattle.sugar_path.proofs.Rooms.{begin-rooted, begin-loose}
use Rattle.sugar_path.proofs.reading.Reading.begin.Goals as goal
use Rattle.sugar_path.proofs.reading.Reading.begin.Goals.{then-rooted, else-rooted}

pub returns-clause-route : goal.returns-clause-route
returns-clause-route c =
    let t = c.args.text.items in
    elim c.if-rooted.branch [
      | then-rooted w ↦
          ap (λ n. route_by_parts (route_start t) (parts (drop n t))) w.base-is
          ∙ begin-rooted t (ap is_absolute (sym c.as_slice.ensures.value) ∙ sym c.is_absolute-rooted.ensures
          ∙ w.if-rooted.true)
      | else-rooted w ↦ ap (λ n. route_by_parts (route_start t) (parts (drop n t))) w.base-is ∙ begin-loose t
    ]
