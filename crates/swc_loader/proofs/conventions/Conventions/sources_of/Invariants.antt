use Rattle.std.proofs.Common.{◌≡◌, true, bytes_eq, drop}
use Rattle.std.specs.Map.{lookup}
use Rattle.swc_loader.specs.Endings.{all_are_endings}
use Rattle.swc_loader.proofs.Naming.{sources_behind}
use Rattle.swc_loader.proofs.conventions.Conventions.sources_of.Given as goal

-- what is left of the table has what the whole has
abbrev pub invariant-loop-written : goal.invariant-loop-written
invariant-loop-written l = record {
  left : lookup (bytes_eq l.extension) (sources_behind l.written-items) ≡ lookup (bytes_eq l.extension)
      (sources_behind (drop l.written-index l.written-items));
  endings : all_are_endings (sources_behind (drop l.written-index l.written-items)) ≡ true;
}
