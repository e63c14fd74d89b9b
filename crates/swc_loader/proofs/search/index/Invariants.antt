use Rattle.std.proofs.Common.{drop}
use Rattle.tree_core.specs.Asks.{Leads}
use Rattle.tree_core.specs.Plan.{first_file}
use Rattle.swc_loader.specs.Search.{index_files}
use Rattle.swc_loader.proofs.Firsts.{with_names}
use Rattle.swc_loader.proofs.search.index.Given as goal

-- what is asked of the names that are left is what is asked of all
abbrev pub invariant-loop-name : goal.invariant-loop-name
invariant-loop-name g l = Leads (g.R.Asker.asking l.fn.tree) (g.R.Asker.asking l.tree)
    (first_file (index_files l.conventions l.folder)) (with_names l.folder (l.conventions).endings
    (drop l.name-index l.name-items))
