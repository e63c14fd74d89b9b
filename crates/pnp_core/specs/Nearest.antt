-- The manifest file nearest to a path.
-- A `do` here is over plans: a plan puts its questions, and the next one goes on by what it came to.
use Rattle.std.specs.Prelude.{◌∷◌, ℕ, List, Option, Result, Ok, codes, map, option_map}
use Rattle.sugar_path.specs.Path.{Path, up, text_of}
use Rattle.tree_core.specs.Plan.{Plan, Done, ◌>>=◌, first_existing}
use Rattle.pnp_core.specs.Refusal.{Refusal}

-- `.pnp.cjs` in a folder
unfoldable pub manifest_file : Path → Path
manifest_file folder = codes ".pnp.cjs" ∷ folder

-- the first of a path and the folders above it in which `.pnp.cjs` exists, as the path of that file
unfoldable pub nearest : Path → Plan (Option Path)
nearest p = first_existing (map manifest_file (p ∷ up p))

-- its text
unfoldable pub nearest_text : Path → Plan (Result (Option (List ℕ)) Refusal)
nearest_text p = do
  found ← nearest p
  Done (Ok (option_map text_of found))
