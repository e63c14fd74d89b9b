use Rattle.std.proofs.Common.{ap, ◌∙◌}
use Rattle.pnp_core.specs.Nodes.{place_of}
use Rattle.pnp_core.proofs.NodeLists.{ways-text, child_at-read, on_err, led, unled}
use Rattle.pnp_core.proofs.trie_nodes.lead.Goals as goal

pub returns-in_err-insert-clause-err : goal.returns-in_err-insert-clause-err
returns-in_err-insert-clause-err g c =
    on_err c.from_residual.result (unled c.args.nodes.now.items c.args.at.0 c.index_mut.result.now c.insert.new.self
    c.index_mut.ensures.value c.in_err-insert.ensures.err)

pub returns-in_err-insert-clause-new_name : goal.returns-in_err-insert-clause-new_name
returns-in_err-insert-clause-new_name g c =
    on_err c.from_residual.result
    (child_at-read c.args.nodes.now.items c.args.at.0 c.index_mut.result.now _ c.requires c.index_mut.ensures.value
    ∙ ways-text _ c.index_mut.result.now.children.entries
    ∙ ap place_of c.in_err-insert.ensures.absent)

pub returns-clause-ok : goal.returns-clause-ok
returns-clause-ok g c =
    led c.args.nodes.now.items c.args.at.0 c.index_mut.result.now c.insert.new.self c.args.name c.args.place c.requires
    c.index_mut.ensures.value c.in_ok-insert.ensures.updates
