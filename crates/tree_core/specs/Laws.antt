-- What stands above what, by names.
use Rattle.std.specs.Prelude.{◌≡◌, ◌≢◌, ◌↔◌, IsTrue, [], ◌++◌}
use Rattle.sugar_path.specs.Path.{Path, IsPath, text_of}
use Rattle.tree_core.specs.Tree.{stands_above}

-- A path stands above another exactly where the names of the other are its own and some more behind them (a path has
-- its last name first): `/` so stands above all others, and nothing above `/`.
pub record StandsAboveByNames : Type 0 where
  pub names : (p q : Path) → IsPath p → IsPath q →
      IsTrue (stands_above (text_of p) (text_of q)) ↔ ((more : Path) × (more ≢ []) × (q ≡ more ++ p))
