-- The manifest nearest to a path, read.
use Rattle.std.specs.Prelude.{Option, Some, None, Result, Ok}
use Rattle.sugar_path.specs.Path.{Path}
use Rattle.tree_core.specs.Plan.{Plan, Done, ◌>>=◌, ◌>>=?◌}
use Rattle.pnp_core.specs.Loading.{told_loading}
use Rattle.pnp_core.specs.Manifest.{Contents}
use Rattle.pnp_core.specs.Nearest.{nearest}
use Rattle.pnp_core.specs.Refusal.{Refusal}

-- the manifest in the file at a path, where there is one
abbrev pub in_file : Option Path → Plan (Result (Option Contents) Refusal)
in_file None = Done (Ok None)
in_file (Some file) = told_loading file >>=? (λ m. Done (Ok (Some m)))

-- the nearest manifest file is looked for, and then read
unfoldable pub finding : Path → Plan (Result (Option Contents) Refusal)
finding p = nearest p >>= in_file
