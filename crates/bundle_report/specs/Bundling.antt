-- What is written for a document: the bundle of its requests.
-- A `do` here is over results: it goes on with what a step gives, and ends by the first error.
use Rattle.std.specs.Prelude.{ℕ, List, flat_map, map, Result, Ok, Err}
use Rattle.tree_core.specs.Tree.{Files}
use Rattle.tree_core.specs.declared.question.Question.{Question}
use Rattle.tree_core.specs.declared.question.Reply.{Reply}
use Rattle.resolve_stack.specs.Settings.{ProjectSettings}
use Rattle.document_core.specs.Cause.{◌>>=◌}
use Rattle.document_core.specs.Document.{document}
use Rattle.document_core.specs.Outcomes.{outcome_on}
use Rattle.document_core.specs.declared.cause.Cause.{Cause}
use Rattle.document_core.specs.declared.given.GivenRequest.{GivenRequest}
use Rattle.trail_bundle.specs.Adding.{request_for}
use Rattle.trail_bundle.specs.Bundle.{Bundle}
use Rattle.trail_bundle.specs.BundleText.{bundle_text}
use Rattle.trail_bundle.specs.FirstReplies.{replies_in}

-- the trails of requests, one behind the other
abbrev pub trails_on : Files → ProjectSettings → List GivenRequest → List (Question × Reply)
trails_on t project requests = flat_map (λ r. (outcome_on t project r).trail) requests

-- the bundle of a project's requests on a tree: the requests, and the replies of their trails
abbrev pub bundle_on : Files → ProjectSettings → List GivenRequest → Bundle
bundle_on t project requests = record {
  requests = map (λ r. request_for r.importer r.specifier) requests;
  replies = replies_in (trails_on t project requests);
}

-- the text of the bundle in a project, or the cause against the project
abbrev pub text_by : Files → List GivenRequest → Result ProjectSettings Cause → Result (List ℕ) Cause
text_by t requests (Ok project) = Ok (bundle_text (bundle_on t project requests))
text_by t requests (Err cause) = Err cause

-- the bundle of a document's requests, or the first cause against it
unfoldable pub bundle_report : List ℕ → Result (List ℕ) Cause
bundle_report bytes = do
  given ← document bytes
  Ok (bundle_text (bundle_on given.files given.project given.requests))
