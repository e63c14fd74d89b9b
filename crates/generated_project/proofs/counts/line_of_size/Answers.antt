use Rattle.std.proofs.Common.{◌≡◌, IfOk, string_bytes, ◌∙◌, subst}
use Rattle.generated_project.specs.Counts.{generated_line, line_of_counts}
use Rattle.generated_project.specs.declared.counts.Counts.{Counts}
use Rattle.generated_project.proofs.ProjectsMade.{counted_whole}
use Rattle.generated_project.proofs.counts.line_of_size.Goals as goal

pub returns : goal.returns
unfolding generated_line
returns c =
    let P : Counts → Type 0 =
    λ counts. IfOk c.line_of_counts.result (λ line. string_bytes line ≡ line_of_counts counts) in
    let whole = counted_whole c.in_ok-counts.counts c.in_ok-tree.tree.files c.in_ok-project.project c.deref.result.now
    c.args.size c.in_ok-counts.ensures c.in_ok-tree.ensures c.in_ok-project.ensures
    (c.deref.ensures.value ∙ c.in_ok-requests.ensures) in
    subst P whole c.line_of_counts.ensures
