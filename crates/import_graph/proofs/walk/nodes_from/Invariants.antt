use Rattle.std.proofs.Common.{◌-◌, ◌^◌, vec_len}
use Rattle.session_core.specs.SessionView.{state_of}
use Rattle.import_graph.proofs.Walking.{IsWalking}
use Rattle.import_graph.proofs.walk.nodes_from.Given as goal

abbrev pub invariant-loop-file : goal.invariant-loop-file
invariant-loop-file g l =
    IsWalking g.S.Scan.imports (state_of l.fn.sources) l.fn.seen.keys l.nodes.items l.seen.keys (state_of l.sources)

-- so many nodes more could be counted
abbrev pub decreases-loop-file : goal.decreases-loop-file
decreases-loop-file g l = 2 ^ 64 - vec_len l.nodes
