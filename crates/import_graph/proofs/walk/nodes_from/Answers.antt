use Rattle.std.proofs.Common.{◌≡◌, length, arith, sym, ap, ◌∙◌}
use Rattle.std.specs.Prelude.{option_copied, slice_get}
use Rattle.session_core.specs.SessionView.{state_of}
use Rattle.import_graph.proofs.Asked.{same-then}
use Rattle.import_graph.proofs.Walking.{walking-begins, walking-ends, walking-goes-on, walking-same}
use Rattle.import_graph.proofs.walk.nodes_from.Goals as goal

pub loop-file-init : goal.loop-file-init
loop-file-init g c =
    rw c.new-nodes.ensures.items (walking-begins g.S.Scan.imports (state_of c.args.sources.now) c.args.seen.keys)

pub returns-in_err-node-clause-same : goal.returns-in_err-node-clause-same
returns-in_err-node-clause-same g c = same-then (state_of c.args.sources.now) (state_of c.loop-file.sources)
    (state_of c.node_of.new.sources) (walking-same g.S.Scan.imports (state_of c.args.sources.now) c.args.seen.keys
    c.loop-file.nodes.items c.loop-file.seen.keys (state_of c.loop-file.sources) c.loop-file.invariant)
    c.node_of.ensures.same

pub returns-in_err-see-clause-same : goal.returns-in_err-see-clause-same
returns-in_err-see-clause-same g c = same-then (state_of c.args.sources.now) (state_of c.loop-file.sources)
    (state_of c.node_of.new.sources) (walking-same g.S.Scan.imports (state_of c.args.sources.now) c.args.seen.keys
    c.loop-file.nodes.items c.loop-file.seen.keys (state_of c.loop-file.sources) c.loop-file.invariant)
    c.node_of.ensures.same

pub returns-in_err-push-clause-same : goal.returns-in_err-push-clause-same
returns-in_err-push-clause-same g c = same-then (state_of c.args.sources.now) (state_of c.loop-file.sources)
    (state_of c.node_of.new.sources) (walking-same g.S.Scan.imports (state_of c.args.sources.now) c.args.seen.keys
    c.loop-file.nodes.items c.loop-file.seen.keys (state_of c.loop-file.sources) c.loop-file.invariant)
    c.node_of.ensures.same

pub loop-file-preserved : goal.loop-file-preserved
loop-file-preserved g c =
    let n : c.len.result ≡ length c.loop-file.nodes.items = omega (arith, c.len.ensures, c.loop-file.nodes.ok) in
    rw c.in_ok-push.ensures.items
    (walking-goes-on g.S.Scan.imports (state_of c.args.sources.now) c.args.seen.keys c.loop-file.nodes.items
    c.loop-file.seen.keys (state_of c.loop-file.sources) c.in-Some.file.now c.in_ok-node.node
    (state_of c.node_of.new.sources) c.see.new.seen.keys
    c.loop-file.invariant (ap (slice_get c.loop-file.seen.keys) (sym n) ∙ sym c.in-Some.ensures.key)
    c.in_ok-node.ensures.node c.in_ok-node.ensures.asked c.in_ok-see.ensures)

pub returns-clause-nodes : goal.returns-clause-nodes
returns-clause-nodes g c =
    let n : c.len.result ≡ length c.loop-file.nodes.items = omega (arith, c.len.ensures, c.loop-file.nodes.ok) in
    rw c.from.ensures
    (walking-ends g.S.Scan.imports (state_of c.args.sources.now) c.args.seen.keys c.loop-file.nodes.items
    c.loop-file.seen.keys (state_of c.loop-file.sources) c.requires c.loop-file.invariant
    (ap (slice_get c.loop-file.seen.keys) (sym n) ∙ sym c.get_index.ensures.key ∙ ap option_copied c.in_default.is))

pub returns-clause-same : goal.returns-clause-same
returns-clause-same g c = walking-same g.S.Scan.imports (state_of c.args.sources.now) c.args.seen.keys
    c.loop-file.nodes.items c.loop-file.seen.keys (state_of c.loop-file.sources) c.loop-file.invariant
