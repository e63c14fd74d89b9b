use Rattle.tree_core.specs.Memory.{refusal}
use Rattle.tree_core.specs.declared.tree.TreeFile.{TreeFile}
use Rattle.session_core.specs.Session.{after_put, put_unless}
use Rattle.session_report.proofs.Puts.{put-left, put-line}
use Rattle.import_graph.specs.GraphView.{graph_state}
use Rattle.graph_report.proofs.Steps.{entries-kept, put-leaves, session-err, session-ok}
use Rattle.graph_report.proofs.lines.put.Goals as goal

pub returns-clause-line : goal.returns-clause-line
returns-clause-line g c =
    let s = (graph_state c.args.session.now).session in
    let path = c.as_str-path.result.now in
    let told = put-line s path (refusal s.tree.files path c.as_str.result.now) c.put-put.result c.line_of_put.result
    c.put-put.ensures.count c.put-put.ensures.fits c.put-put.ensures.refused c.line_of_put.ensures.line
    c.line_of_put.ensures.starved in
    rw (c.as_str-path.ensures, c.as_str.ensures) at told

pub returns-clause-taken : goal.returns-clause-taken
returns-clause-taken g c =
    let s = graph_state c.args.session.now in
    let u = graph_state c.put-put.new.self in
    let path = c.as_str-path.result.now in
    let file : TreeFile = record { content = c.as_slice.result.now; canonical = c.as_str.result.now } in
    let against = refusal s.session.tree.files path file.canonical in
    let put = c.put-put.result in
    let after = after_put s.session path file in
    let left = put-leaves s u (put_unless s.session path file against) c.line_of_put.result
    (entries-kept s u after put c.put-put.ensures.ok c.put-put.ensures.err)
    (put-left s.session path against u.session file put c.line_of_put.result
    (session-ok s u after put c.put-put.ensures.ok) c.put-put.ensures.fits c.put-put.ensures.refused
    (session-err s u put c.put-put.ensures.err) c.line_of_put.ensures.starved) in
    rw (c.as_str-path.ensures, c.as_str.ensures, c.as_slice.ensures) at left
