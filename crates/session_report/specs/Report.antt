-- What is written for a session document: a line for each of its steps.
-- A `do` here is over results: it goes on with what a step gives, and ends by the first error.
use Rattle.std.specs.Prelude.{ℕ, List, [], Result, Ok, Err}
use Rattle.tree_core.specs.Tree.{Files}
use Rattle.resolve_stack.specs.Settings.{ProjectSettings}
use Rattle.document_core.specs.Cause.{◌>>=◌}
use Rattle.document_core.specs.declared.cause.Cause.{Cause}
use Rattle.session_report.specs.declared.step.Step.{Step}
use Rattle.session_report.specs.Given.{session_document}
use Rattle.session_report.specs.Lines.{step_lines}

-- the lines of steps in a session over a tree, or the cause against the project
abbrev pub lines_by : Files → ℕ → List Step → Result ProjectSettings Cause → Result (List ℕ) Cause
lines_by t capacity steps (Ok project) = Ok (step_lines (record {
  project = project;
  tree = record { files = t; questions = 0 };
  capacity = capacity;
  kept = [];
}) steps)
lines_by t capacity steps (Err cause) = Err cause

-- the report on a session document, or the first cause against it
unfoldable pub session_report : List ℕ → Result (List ℕ) Cause
session_report bytes = do
  given ← session_document bytes
  Ok (step_lines given.session given.steps)
