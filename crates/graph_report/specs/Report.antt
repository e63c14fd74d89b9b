-- What is written for a graph document: a line for each of its steps.
-- A `do` here is over results: it goes on with what a step gives, and ends by the first error.
use Rattle.std.specs.Prelude.{ℕ, List, [], Result, Ok, Err}
use Rattle.tree_core.specs.Tree.{Files}
use Rattle.resolve_stack.specs.Settings.{ProjectSettings}
use Rattle.document_core.specs.Cause.{◌>>=◌}
use Rattle.document_core.specs.declared.cause.Cause.{Cause}
use Rattle.graph_report.specs.declared.step.GraphStep.{GraphStep}
use Rattle.graph_report.specs.Given.{graph_document, imports_by}
use Rattle.graph_report.specs.Lines.{step_lines}

-- the lines of steps over the graph of a tree from entries, by what the bytes of files import; or the cause against the
-- project
abbrev pub lines_by :
    (List ℕ → List (List ℕ)) → Files → List (List ℕ) → ℕ → List GraphStep → Result ProjectSettings Cause
    → Result (List ℕ) Cause
lines_by imports t entries capacity steps (Ok project) = Ok (step_lines imports (record {
  session = record {
    project = project;
    tree = record { files = t; questions = 0 };
    capacity = capacity;
    kept = [];
  };
  entries = entries;
}) steps)
lines_by imports t entries capacity steps (Err cause) = Err cause

-- the report on a graph document, or the first cause against it
unfoldable pub graph_report : List ℕ → Result (List ℕ) Cause
graph_report bytes = do
  given ← graph_document bytes
  Ok (step_lines (imports_by given.scanner) given.session given.steps)
