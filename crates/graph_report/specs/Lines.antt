-- The lines of the steps over an import graph: for each step the compact text of a JSON object.
use Rattle.std.specs.Prelude.{◌≡◌, ℕ, List, [], ◌∷◌, ◌++◌, codes, map}
use Rattle.serde_json.specs.Data.{Data, array, string, object, no_members, member}
use Rattle.serde_json.specs.View.{items_of}
use Rattle.report_core.specs.Verdicts.{verdict_value}
use Rattle.session_report.specs.Lines as edits
use Rattle.session_report.specs.Lines.{counting, line_of}
use Rattle.session_report.specs.declared.step.Step.TheVariants as edit
use Rattle.import_graph.specs.declared.graph.Edge.{Edge}
use Rattle.import_graph.specs.declared.graph.Node.{Node}
use Rattle.import_graph.specs.declared.graph.Graph.{Graph as ImportGraph}
use Rattle.import_graph.specs.GraphState.{GraphState, graph_of, with_session}
use Rattle.import_graph.specs.GraphSteps as graphs
use Rattle.graph_report.specs.declared.step.GraphStep.{GraphStep}
use Rattle.graph_report.specs.declared.step.GraphStep.TheVariants.{Graph, Put, Remove}

-- an import, by its specifier, with its verdict
abbrev pub edge_value : Edge → Data
edge_value e = object
    (member (codes "specifier") (string e.specifier)
    (member (codes "verdict") (verdict_value no_members e.verdict) no_members))

-- a file, with its imports in order
abbrev pub node_value : Node → Data
node_value node = object
    (member (codes "edges") (array (items_of (map edge_value node.edges)))
    (member (codes "file") (string node.file) no_members))

-- a graph: the entries that are no files, and the files that are reached
abbrev pub graph_value : ImportGraph → Data
graph_value g = object
    (member (codes "missing") (array (items_of (map string g.missing)))
    (member (codes "nodes") (array (items_of (map node_value g.nodes))) no_members))

-- the line of a step, by what the bytes of files import and the graph session before it: of a graph that on the tree as
-- it is then, and of an edit that of
-- the session
abbrev pub step_line : (List ℕ → List (List ℕ)) → GraphState → GraphStep → List ℕ
step_line imports s Graph = line_of (graph_value (graph_of imports s))
step_line imports s (Put file) = edits.step_line s.session (edit.Put file)
step_line imports s (Remove path) = edits.step_line s.session (edit.Remove path)

-- the step that is taken over the graph session
abbrev pub taken : GraphStep → graphs.Step
taken Graph = graphs.Ask
taken (Put file) =
    graphs.Put file.path (record { content = file.content; canonical = file.canonical })
taken (Remove path) = graphs.Remove path

abbrev pub after_step : (List ℕ → List (List ℕ)) → GraphState → GraphStep → GraphState
after_step imports s step = graphs.after_step imports s (taken step)

-- the lines of steps in order
abbrev pub step_lines : (List ℕ → List (List ℕ)) → GraphState → List GraphStep → List ℕ
step_lines imports s [] = []
step_lines imports s (step ∷ steps) = step_line imports s step ++ step_lines imports (after_step imports s step) steps

-- a graph session with another count of the questions that its tree was asked
abbrev pub counted : GraphState → ℕ → GraphState
counted s n = with_session s (counting s.session n)

-- what a step leaves, but for the count of questions
abbrev pub LeavesAfter : (List ℕ → List (List ℕ)) → GraphStep → GraphState → GraphState → Type 0
LeavesAfter imports step old new = new ≡ counted (after_step imports old step) new.session.tree.questions
