-- The order of search for Node's modules, as one text over its rows. The `do` here is over rows: plans that may end the
-- order.
use Rattle.std.specs.Prelude.{ℕ, List, Result}
use Rattle.tree_core.specs.Plan.{Plan}
use Rattle.tree_core.specs.Rows.{Row, order, decided, refuses_by}
use Rattle.tree_core.specs.Resolving.{◌>>=◌}
use Rattle.swc_loader.specs.declared.resolution.FileName.{FileName}
use Rattle.swc_loader.specs.declared.resolution.Resolution.{Resolution}
use Rattle.swc_loader.specs.declared.refusal.NodeRefusal.{NodeRefusal}
use Rattle.sugar_path.specs.Path.{clean}
use Rattle.swc_loader.specs.Settings.{NodeSettings}
use Rattle.swc_loader.specs.NodeRows.{unless_probed, path_text, target_before_search, search}

-- A line for each step: the first look, the base, what is decided before a search, and the search.
abbrev pub node_rows : NodeSettings → FileName → List ℕ → Row Resolution Resolution NodeRefusal
node_rows s base specifier = do
  unanswered ← unless_probed s specifier
  importer ← decided (path_text base)
  target ← target_before_search s (clean s.cwd importer) unanswered
  refuses_by (search s importer target)

-- what a specifier comes to, asked from a base
abbrev pub node : NodeSettings → FileName → List ℕ → Plan (Result Resolution NodeRefusal)
node s base specifier = order (node_rows s base specifier)
