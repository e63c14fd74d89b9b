use Rattle.std.proofs.Common.{◌≡◌, ℕ, ◌<◌, length, Some}
use Rattle.std.specs.Prelude.{slice_get}
use Rattle.es_pattern.specs.Pieces.{tree_of}
use Rattle.es_pattern.specs.Begins.{may_take}
use Rattle.es_pattern.proofs.compile.begins_of.Given as goal

abbrev pub invariant-loop-code : goal.invariant-loop-code
invariant-loop-code l = (length l.begins.items ≡ l.code)
    × ((c : ℕ) → c < l.code → slice_get l.begins.items c ≡ Some (may_take (tree_of l.pieces) c))
