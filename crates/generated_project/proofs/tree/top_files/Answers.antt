use Rattle.std.proofs.Common.{ℕ, List, [], codes, ap, ◌∙◌}
use Rattle.std.specs.FinMap as finite
use Rattle.tree_core.specs.Memory.{Memory}
use Rattle.tree_core.specs.Tree.{Files}
use Rattle.generated_project.specs.Generated.{top_files, with_text}
use Rattle.generated_project.proofs.tree.top_files.Goals as goal

pub returns : goal.returns
unfolding top_files
returns c =
    c.in_ok-put-2.ensures
    ∙ ap (λ (t : Files). with_text t (codes "/g/a.js") [])
    (c.in_ok-put.ensures
    ∙ ap (λ (m : Memory). with_text m.files (codes "/g/.pnp.cjs") c.as_str.result.now) c.new-tree.ensures
    ∙ ap (λ (text : List ℕ). with_text finite.empty (codes "/g/.pnp.cjs") text)
    (c.as_str.ensures.value ∙ c.in_ok-manifest.ensures))
