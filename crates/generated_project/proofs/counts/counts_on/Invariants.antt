use Rattle.std.proofs.Common.{◌≡◌, take}
use Rattle.std.specs.Prelude.{map}
use Rattle.document_core.specs.Outcomes.{outcome_on}
use Rattle.generated_project.specs.Counts.{counts_of}
use Rattle.generated_project.proofs.counts.counts_on.Given as goal

-- the counts of the outcomes so far
abbrev pub invariant-loop-request : goal.invariant-loop-request
invariant-loop-request l = record {
  files : l.tree.files ≡ l.fn.tree.files;
  counts : l.counts ≡ counts_of (map (outcome_on l.fn.tree.files l.project) (take l.request-index l.requests));
}
