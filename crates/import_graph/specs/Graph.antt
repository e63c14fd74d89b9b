-- The import graph of a tree from some entries. It knows no queue, and nothing of how it came to be.
use Rattle.std.specs.Prelude.{ℕ, not, List, [], filter, filter_map, length, map, Option, None, option_map, unwrap_or}
use Rattle.std.specs.FinMap.{keys}
use Rattle.tree_core.specs.Tree.{Files, bytes_at, is_file}
use Rattle.swc_loader.specs.declared.resolution.FileName.TheVariants.{Real}
use Rattle.resolve_stack.specs.Settings.{ProjectSettings}
use Rattle.resolve_stack.specs.declared.verdict.Verdict.{Verdict}
use Rattle.resolve_stack.specs.declared.verdict.Verdict.TheVariants.{Answered, Refused}
use Rattle.session_core.specs.Session.{outcome_on}
use Rattle.import_graph.specs.declared.graph.Edge.{Edge}
use Rattle.import_graph.specs.declared.graph.Node.{Node}
use Rattle.import_graph.specs.declared.graph.Graph.{Graph}
use Rattle.import_graph.specs.Levels.{once, levels_to}

-- what a file imports, repeats dropped, by what bytes import; where no file is, nothing is imported
abbrev pub imported : (List ℕ → List (List ℕ)) → Files → List ℕ → List (List ℕ)
imported imports t file = once (unwrap_or (option_map imports (bytes_at t file)) [])

-- an import of a file, with the verdict of that request
abbrev pub edge_on : Files → ProjectSettings → List ℕ → List ℕ → Edge
edge_on t project file text =
    record { specifier = text; verdict = (outcome_on t project (Real file) text).verdict }

-- the edges of a file: one for each of its imports, in order
abbrev pub edges_on : (List ℕ → List (List ℕ)) → Files → ProjectSettings → List ℕ → List Edge
edges_on imports t project file = map (edge_on t project file) (imported imports t file)

-- the file that a verdict finds
abbrev pub found_file : Verdict → Option (List ℕ)
found_file (Answered answer) = option_map (λ found. found.file) answer.found
found_file (Refused refusal) = None

-- the files that edges lead to
abbrev pub found_by : List Edge → List (List ℕ)
found_by edges = filter_map (λ e. found_file e.verdict) edges

-- the files that a file leads to, in the order of its edges
abbrev pub leads_to : (List ℕ → List (List ℕ)) → Files → ProjectSettings → List ℕ → List (List ℕ)
leads_to imports t project file = found_by (edges_on imports t project file)

-- the entries that are files, repeats dropped
abbrev pub first_files : Files → List (List ℕ) → List (List ℕ)
first_files t entries = once (filter (is_file t) entries)

-- the files of all levels, in order: there are no more levels than files, and one
unfoldable pub files_reached : (List ℕ → List (List ℕ)) → Files → ProjectSettings → List (List ℕ) → List (List ℕ)
files_reached imports t project entries =
    levels_to (leads_to imports t project) (first_files t entries) (length (keys t))

-- a file with its edges
abbrev pub node_on : (List ℕ → List (List ℕ)) → Files → ProjectSettings → List ℕ → Node
node_on imports t project file = record { file = file; edges = edges_on imports t project file }

-- the entries that are no files
abbrev pub missing_from : Files → List (List ℕ) → List (List ℕ)
missing_from t entries = filter (λ entry. not (is_file t entry)) entries

-- the graph: each file that is reached, and the entries that are missing
abbrev pub graph_on : (List ℕ → List (List ℕ)) → Files → ProjectSettings → List (List ℕ) → Graph
graph_on imports t project entries = record {
  nodes = map (node_on imports t project) (files_reached imports t project entries);
  missing = missing_from t entries;
}
