use Rattle.std.proofs.Common.{◌≡◌, ℕ, ◌+◌, ◌++◌, sym, ap, ◌∙◌, arith}
use Rattle.std.specs.Prelude.{map}
use Rattle.generated_project.specs.Generated.{package_request}
use Rattle.generated_project.proofs.Numbers.{numbers_left, values_go}
use Rattle.generated_project.proofs.requests.generated_requests.Goals as goal

pub loop-i-preserved : goal.loop-i-preserved
loop-i-preserved c =
    let same : c.loop-i.i + 0 ≡ c.loop-i.i = omega arith in
    let made = c.in_ok-package_request.ensures ∙ ap (λ k. package_request k (k + 1)) (sym same) in
    values_go (λ k. package_request k (k + 1)) 0 c.loop-i.i c.args.size _ c.loop-i.requests.items
    c.in_ok-package_request.field-0 (omega arith) c.loop-i.invariant made
    ∙ ap (λ items. items ++ map (λ k. package_request k (k + 1)) (numbers_left 0 (c.loop-i.i + 1) c.args.size))
    (sym c.in_ok-push.ensures.items)
