use Rattle.std.proofs.Common.{◌≡◌}
use Rattle.generated_project.specs.Generated.{numbers, with_packages}
use Rattle.generated_project.proofs.Numbers.{numbers_left}
use Rattle.generated_project.proofs.tree.put_packages.Given as goal

-- the packages that are left are put into what was made so far
abbrev pub invariant-loop-i : goal.invariant-loop-i
invariant-loop-i l =
    with_packages l.fn.tree.files (numbers l.size) ≡ with_packages l.tree.files (numbers_left 1 l.i l.size)
