-- What a document's requests come to on a tree.
use Rattle.tree_core.specs.Tree.{Files}
use Rattle.resolve_stack.specs.Settings.{ProjectSettings}
use Rattle.resolve_stack.specs.Request.{asked_for}
use Rattle.resolve_stack.specs.Outcomes.{request_outcome}
use Rattle.resolve_stack.specs.declared.verdict.Outcome.{Outcome}
use Rattle.document_core.specs.declared.given.GivenRequest.{GivenRequest}

-- the outcome of a document's request on a tree
abbrev pub outcome_on : Files → ProjectSettings → GivenRequest → Outcome
outcome_on t project request = request_outcome t project (asked_for request.importer request.specifier)
