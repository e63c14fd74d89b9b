use Rattle.std.proofs.Common.{ap, ◌∙◌, subst, arith}
use Rattle.tree_core.specs.Tree.{Files}
use Rattle.document_core.specs.Outcomes.{outcome_on}
use Rattle.generated_project.specs.Counts.{counts_of, IsWithOutcome}
use Rattle.generated_project.proofs.Sums.{counts_push, map_more}
use Rattle.generated_project.proofs.counts.counts_on.Goals as goal

pub loop-request-preserved : goal.loop-request-preserved
loop-request-preserved c =
    let files = c.loop-request.invariant.files in
    let P : Files → Type 0 = λ t. IsWithOutcome c.loop-request.counts
    (outcome_on t c.args.project.now c.request-item.result) c.in_ok-counts.counts in
    let more = subst P files c.in_ok-counts.ensures.more in
    record {
      files = c.with_request.ensures.files ∙ files;
      counts = counts_push _ _ _ _ c.loop-request.invariant.counts more
          ∙ ap counts_of (map_more (outcome_on c.args.tree.now.files c.args.project.now) c.args.requests.now
          c.loop-request.request-index c.request-item.result (omega arith) c.request-item.is);
    }
