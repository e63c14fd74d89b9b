-- What a request comes to on a tree.
use Rattle.std.specs.Prelude.{[]}
use Rattle.tree_core.specs.Tree.{Files, recorded}
use Rattle.tree_core.specs.Plan.{answer, asked}
use Rattle.resolve_stack.specs.declared.verdict.Outcome.{Outcome}
use Rattle.resolve_stack.specs.Request.{Request}
use Rattle.resolve_stack.specs.Settings.{ProjectSettings}
use Rattle.resolve_stack.specs.Verdict.{verdict}

-- the outcome of a request on a tree: the verdict, and the questions that decide it, each once, with the tree's replies
unfoldable pub request_outcome : Files → ProjectSettings → Request → Outcome
request_outcome t project request = record {
  verdict = answer t (verdict project request);
  trail = recorded t [] (asked t (verdict project request));
}
