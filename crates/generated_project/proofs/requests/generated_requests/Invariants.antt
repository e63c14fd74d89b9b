use Rattle.std.proofs.Common.{◌≡◌, ◌+◌, ◌++◌}
use Rattle.std.specs.Prelude.{map}
use Rattle.std.specs.List.{range_with_len}
use Rattle.generated_project.specs.Generated.{package_request}
use Rattle.generated_project.proofs.Numbers.{numbers_left}
use Rattle.generated_project.proofs.requests.generated_requests.Given as goal

-- the requests so far stand in front of the others
abbrev pub invariant-loop-i : goal.invariant-loop-i
invariant-loop-i l = map (λ k. package_request k (k + 1)) (range_with_len 0 l.size) ≡ l.requests.items
    ++ map (λ k. package_request k (k + 1)) (numbers_left 0 l.i l.size)
