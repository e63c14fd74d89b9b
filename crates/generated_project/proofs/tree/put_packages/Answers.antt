use Rattle.std.proofs.Common.{[], ap, ◌∙◌, arith}
use Rattle.generated_project.specs.Generated.{with_text}
use Rattle.generated_project.proofs.Numbers.{packages_go}
use Rattle.generated_project.proofs.tree.put_packages.Goals as goal

pub loop-i-preserved : goal.loop-i-preserved
loop-i-preserved c =
    packages_go c.loop-i.i c.args.size _ c.loop-i.tree.files c.put.new.tree.files (omega arith) c.loop-i.invariant
    (c.in_ok-put.ensures ∙ ap (λ path. with_text c.loop-i.tree.files path [])
    (c.as_str.ensures.value ∙ c.in_ok-path.ensures))
