use Rattle.std.proofs.Common.{◌≡◌, ◌++◌, drop}
use Rattle.session_core.specs.SessionView.{state_of}
use Rattle.import_graph.specs.Graph.{missing_from}
use Rattle.import_graph.proofs.walk.missing_from.Given as goal

-- what is missing so far stands in front of what is missing of the entries that are left
abbrev pub invariant-loop-entry : goal.invariant-loop-entry
invariant-loop-entry g l =
    missing_from (state_of l.sources).tree.files l.entries ≡ l.missing.items
    ++ missing_from (state_of l.sources).tree.files (drop l.entry-index l.entries)
