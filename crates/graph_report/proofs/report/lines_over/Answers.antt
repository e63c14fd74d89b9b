use Rattle.graph_report.proofs.report.lines_over.Goals as goal

pub returns : goal.returns
returns g c =
    let begun = rw c.unwrap-graphs.ensures at c.over.ensures.made in
    let told = rw begun at c.lines_of.ensures in
    told
