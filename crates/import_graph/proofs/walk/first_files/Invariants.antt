use Rattle.std.proofs.Common.{◌≡◌, [], bytes_eq, drop, filter}
use Rattle.indexmap.specs.IndexSet.{insert_all}
use Rattle.tree_core.specs.Tree.{is_file}
use Rattle.session_core.specs.SessionView.{state_of}
use Rattle.import_graph.proofs.walk.first_files.Given as goal

-- the entries so far that are files are seen
abbrev pub invariant-loop-entry : goal.invariant-loop-entry
invariant-loop-entry g l =
    insert_all bytes_eq [] (filter (is_file (state_of l.sources).tree.files) l.entries)
    ≡ insert_all bytes_eq l.seen.keys (filter (is_file (state_of l.sources).tree.files) (drop l.entry-index l.entries))
