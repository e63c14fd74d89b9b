use Rattle.std.proofs.Common.{◌-◌, length}
use Rattle.es_imports.proofs.Unitings.{Uniting}
use Rattle.es_imports.proofs.value.units_of.Given as goal

abbrev pub invariant-loop-at : goal.invariant-loop-at
invariant-loop-at l = Uniting l.text l.at l.units.items

abbrev pub decreases-loop-at : goal.decreases-loop-at
decreases-loop-at l = length l.text - l.at
