use Rattle.std.proofs.Common.{◌∷◌, ◌++◌, ap, ◌∙◌}
use Rattle.sugar_path.specs.Path.{names_in}
use Rattle.sugar_path.proofs.Paths.{names_in-child, IsSteps-child}
use Rattle.sugar_path.proofs.clean_path.CleanPath.child.Goals as goal

pub invariant_of-result : goal.invariant_of-result
invariant_of-result c = IsSteps-child c.self.inside.steps c.args.name.now c.push_name.new.self c.self.invariant
    c.requires (c.in_ok-push_name.ensures.ok ∙ ap (λ s. s ++ 47 ∷ c.args.name.now) c.in_ok-steps.ensures)

pub returns : goal.returns
returns c =
    ap names_in (c.in_ok-push_name.ensures.ok ∙ ap (λ s. s ++ 47 ∷ c.args.name.now) c.in_ok-steps.ensures)
    ∙ names_in-child c.self.inside.steps c.args.name.now c.requires
    ∙ ap (λ p. c.args.name.now ∷ p) c.self.view_is
