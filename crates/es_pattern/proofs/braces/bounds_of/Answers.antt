use Rattle.std.proofs.Common.{ℕ, Option, Some, subst}
use Rattle.es_pattern.specs.declared.braces.Bounds.{Bounds}
use Rattle.es_pattern.specs.Bounds.{Bounded}
use Rattle.es_pattern.specs.Reading.{bounds_by}
use Rattle.es_pattern.proofs.Digits.{one_bounded}
use Rattle.es_pattern.proofs.braces.bounds_of.Goals as goal

pub returns-in_ok-count-in-None : goal.returns-in_ok-count-in-None
returns-in_ok-count-in-None c =
    let b : Bounds = record { least = c.in_ok-count-in-None.count; most = Some c.in_ok-count-in-None.count } in
    subst (λ (o : Option ℕ). Bounded (bounds_by o c.args.text.now) (Some b)) c.in-None.ensures.first
    (one_bounded c.args.text.now c.in_ok-count-in-None.count c.in_ok-count-in-None.ensures)
