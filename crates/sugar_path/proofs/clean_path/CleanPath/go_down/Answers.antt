use Rattle.std.proofs.Common.{◌∷◌, ap, ◌∙◌}
use Rattle.sugar_path.specs.Path.{names_in}
use Rattle.sugar_path.proofs.Paths.{names_in-child, IsSteps-child}
use Rattle.sugar_path.proofs.clean_path.CleanPath.go_down.Goals as goal

pub invariant_of-self-2 : goal.invariant_of-self-2
invariant_of-self-2 c = IsSteps-child c.self.inside.steps c.args.name.now c.push_name.new.self c.self.invariant
    c.requires c.in_ok-push_name.ensures.ok

pub returns-clause-ok : goal.returns-clause-ok
returns-clause-ok c =
    ap names_in c.in_ok-push_name.ensures.ok
    ∙ names_in-child c.self.inside.steps c.args.name.now c.requires
    ∙ ap (λ p. c.args.name.now ∷ p) c.self.view_is
