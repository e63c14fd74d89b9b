-- What the search for the nearest manifest comes to on a tree, with the questions that it puts.
-- A `do` here is over what is told: each line is a search on a tree, and the next one goes on with its result.
use Rattle.std.specs.Prelude.{◌≡◌, Option, Some, None, Result, Ok}
use Rattle.sugar_path.specs.Path.{Path}
use Rattle.tree_core.specs.Tree.{Files}
use Rattle.tree_core.specs.Told.{Told, told, unasked, ◌>>=◌, ◌>>=?◌}
use Rattle.pnp_core.specs.Finding.{finding}
use Rattle.pnp_core.specs.Manifest.{Contents}
use Rattle.pnp_core.specs.OnTree.{nearest_on, told_on}
use Rattle.pnp_core.specs.Refusal.{Refusal}

-- what a manifest file says, where there is one
abbrev pub in_file_on : Files → Option Path → Told (Result (Option Contents) Refusal)
in_file_on t None = unasked (Ok None)
in_file_on t (Some file) = told_on t file >>=? (λ m. unasked (Ok (Some m)))

-- the manifest nearest to a path: the nearest manifest file, and then its bytes
abbrev pub finding_on : Files → Path → Told (Result (Option Contents) Refusal)
finding_on t p = do
  found ← nearest_on t p
  in_file_on t found

-- the manifest nearest to a path, on each tree
pub record FindingOnTree : Type 0 where
  pub tells : (t : Files) (p : Path) → told t (finding p) ≡ finding_on t p
