use Rattle.tree_core.specs.Memory.{refusal}
use Rattle.tree_core.specs.declared.tree.TreeFile.{TreeFile}
use Rattle.session_core.specs.SessionView.{state_of}
use Rattle.session_report.proofs.Puts.{put-left, put-line}
use Rattle.session_report.proofs.lines.put.Goals as goal

pub returns-clause-line : goal.returns-clause-line
returns-clause-line c =
    let s = state_of c.args.session.now in
    let path = c.as_str-path.result.now in
    let told = put-line s path (refusal s.tree.files path c.as_str.result.now) c.put-put.result c.line_of_put.result
    c.put-put.ensures.count c.put-put.ensures.fits c.put-put.ensures.refused c.line_of_put.ensures.line
    c.line_of_put.ensures.starved in
    rw (c.as_str-path.ensures, c.as_str.ensures) at told

pub returns-clause-taken : goal.returns-clause-taken
returns-clause-taken c =
    let s = state_of c.args.session.now in
    let path = c.as_str-path.result.now in
    let file : TreeFile = record { content = c.as_slice.result.now; canonical = c.as_str.result.now } in
    let left = put-left s path (refusal s.tree.files path file.canonical) (state_of c.put-put.new.self) file
    c.put-put.result c.line_of_put.result c.put-put.ensures.ok c.put-put.ensures.fits c.put-put.ensures.refused
    c.put-put.ensures.err c.line_of_put.ensures.starved in
    rw (c.as_str-path.ensures, c.as_str.ensures, c.as_slice.ensures) at left
