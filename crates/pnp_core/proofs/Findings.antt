-- What the search for the nearest manifest tells of a tree.
use Rattle.std.proofs.Common.{◌≡◌, Option, Some, None, Ok}
use Rattle.sugar_path.specs.Path.{Path}
use Rattle.tree_core.specs.Tree.{Files}
use Rattle.tree_core.specs.Plan.{Done}
use Rattle.tree_core.specs.Told.{told}
use Rattle.tree_core.proofs.Tellings.{told-done, told-by, told-refusing}
use Rattle.pnp_core.specs.Finding.{finding, in_file}
use Rattle.pnp_core.specs.FindingOnTree.{in_file_on, finding_on, FindingOnTree}
use Rattle.pnp_core.specs.Loading.{told_loading}
use Rattle.pnp_core.specs.Nearest.{nearest}
use Rattle.pnp_core.proofs.OnTrees.{nearest_on_tree, told_on_tree}

told-in_file : (t : Files) (found : Option Path) → told t (in_file found) ≡ in_file_on t found
told-in_file t None = told-done t (Ok None)
told-in_file t (Some file) = told-refusing t (told_loading file) (λ m. Done (Ok (Some m))) (told_on_tree.tells t file)
    (λ m. told-done t (Ok (Some m)))

told-finding : (t : Files) (p : Path) → told t (finding p) ≡ finding_on t p
unfolding finding
told-finding t p = told-by t (nearest p) in_file (nearest_on_tree.tells t p) (told-in_file t)

pub finding_on_tree : FindingOnTree
finding_on_tree = record { tells = told-finding }
