use Rattle.std.proofs.Common.{◌≡◌, ◌++◌, string_bytes, flat_map}
use Rattle.generated_project.specs.Generated.{manifest_front, numbers, package_row}
use Rattle.generated_project.proofs.Numbers.{numbers_left}
use Rattle.generated_project.proofs.manifest.manifest_text.Given as goal

-- the rows so far stand in front of the others
abbrev pub invariant-loop-i : goal.invariant-loop-i
invariant-loop-i l = manifest_front ++ flat_map (package_row l.size) (numbers l.size) ≡ string_bytes l.text
    ++ flat_map (package_row l.size) (numbers_left 1 l.i l.size)
