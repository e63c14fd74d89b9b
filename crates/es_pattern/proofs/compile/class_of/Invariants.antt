use Rattle.std.proofs.Common.{◌≡◌, ℕ, ◌<◌, length, Some}
use Rattle.std.specs.Prelude.{slice_get}
use Rattle.es_pattern.specs.Spans.{fits}
use Rattle.es_pattern.proofs.compile.class_of.Given as goal

abbrev pub invariant-loop-code : goal.invariant-loop-code
invariant-loop-code l = (length l.class.items ≡ l.code)
    × ((c : ℕ) → c < l.code → slice_get l.class.items c ≡ Some (fits l.negated l.ranges c))
