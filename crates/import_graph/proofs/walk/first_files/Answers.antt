use Rattle.std.proofs.Common.{◌≡◌, [], bytes_eq, drop, filter, arith, sym, ap, ◌∙◌}
use Rattle.std.proofs.Math.ListN.{drop_of_length-le}
use Rattle.indexmap.specs.IndexSet.{insert_all}
use Rattle.tree_core.specs.Tree.{is_file}
use Rattle.session_core.specs.SessionView.{state_of}
use Rattle.import_graph.proofs.Repeats.{once-is}
use Rattle.import_graph.proofs.walk.first_files.Goals as goal

pub returns : goal.returns
returns g c =
    let files = filter (is_file (state_of c.args.sources.now).tree.files) c.args.entries.now in
    let keys = c.loop-entry.seen.keys in
    let none : drop c.loop-entry.entry-index c.args.entries.now ≡ [] =
    drop_of_length-le c.args.entries.now (omega arith) in
    sym (c.loop-entry.invariant ∙ ap (λ entries. insert_all bytes_eq keys
    (filter (is_file (state_of c.args.sources.now).tree.files) entries)) none) ∙ once-is files
