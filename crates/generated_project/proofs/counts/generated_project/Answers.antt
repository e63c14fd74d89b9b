use Rattle.std.proofs.Common.{true, false, None}
use Rattle.swc_loader.specs.declared.target.TargetEnv.TheVariants.{Node}
use Rattle.generated_project.proofs.ProjectsMade.{project_made}
use Rattle.generated_project.proofs.counts.generated_project.Goals as goal

pub returns-in-Ok : goal.returns-in-Ok
returns-in-Ok c =
    let cwd = c.in_ok-of.ensures in
    let none = c.new.ensures.empty in
    project_made _ _ (λ i. record {
      cwd = cwd i;
      target = Node;
      preserve_symlinks = false;
      node_modules = true;
      alias =
          none i;
      ts = None;
      lock = None;
      conditions = None;
    }) c.in-Ok.ensures.ok
