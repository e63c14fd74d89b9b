-- What the calls that ask a tree come to on it, each with the questions that it puts: the laws by which a reader checks
-- the plans.
use Rattle.std.specs.Prelude.{◌≡◌, ℕ, List, ◌∷◌, Option, Result, Ok, map, option_map}
use Rattle.sugar_path.specs.Path.{Path, up, text_of}
use Rattle.tree_core.specs.Tree.{Files}
use Rattle.tree_core.specs.Told.{Told, told, made, read_on, first_existing_on}
use Rattle.pnp_core.specs.declared.error.HydrationCause.{HydrationCause}
use Rattle.pnp_core.specs.Manifest.{Contents}
use Rattle.pnp_core.specs.ManifestReading.{reading}
use Rattle.pnp_core.specs.Nearest.{manifest_file, nearest, nearest_text}
use Rattle.pnp_core.specs.Loading.{loading, or_refused, told_loading}
use Rattle.pnp_core.specs.Refusal.{Refusal}

-- the first `.pnp.cjs` that is there, in a path taken as a folder and then in each folder above it
abbrev pub nearest_on : Files → Path → Told (Option Path)
nearest_on t p = first_existing_on t (map manifest_file (p ∷ up p))

-- the manifest that a file's bytes are, or the first cause why they are none
abbrev pub loaded_on : Files → Path → Told (Result Contents HydrationCause)
loaded_on t p = made (λ content. reading content p) (read_on t p)

-- the text of the nearest manifest file
abbrev pub nearest_text_on : Files → Path → Told (Result (Option (List ℕ)) Refusal)
nearest_text_on t p = made (λ found. Ok (option_map text_of found)) (nearest_on t p)

-- the manifest that a file is, or its refusal in Yarn's words
abbrev pub told_on : Files → Path → Told (Result Contents Refusal)
told_on t p = made (or_refused p) (loaded_on t p)

-- the nearest manifest file, on each tree
pub record NearestOnTree : Type 0 where
  pub tells : (t : Files) (p : Path) → told t (nearest p) ≡ nearest_on t p

-- the manifest that a file is, on each tree
pub record LoadedOnTree : Type 0 where
  pub tells : (t : Files) (p : Path) → told t (loading p) ≡ loaded_on t p

-- the text of the nearest manifest file, on each tree
pub record NearestTextOnTree : Type 0 where
  pub tells : (t : Files) (p : Path) → told t (nearest_text p) ≡ nearest_text_on t p

-- the manifest that a file is, or its refusal, on each tree
pub record ToldOnTree : Type 0 where
  pub tells : (t : Files) (p : Path) → told t (told_loading p) ≡ told_on t p
