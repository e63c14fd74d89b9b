-- The manifest that a file of a tree is.
-- A `do` here is over plans: a plan puts its questions, and the next one goes on by what it came to.
use Rattle.std.specs.Prelude.{Result, Ok, Err}
use Rattle.sugar_path.specs.Path.{Path}
use Rattle.tree_core.specs.Plan.{Plan, Done, ◌>>=◌, read}
use Rattle.pnp_core.specs.declared.error.HydrationCause.{HydrationCause}
use Rattle.pnp_core.specs.Manifest.{Contents}
use Rattle.pnp_core.specs.ManifestReading.{reading}
use Rattle.pnp_core.specs.Refusal.{Refusal, NoManifest}
use Rattle.pnp_core.specs.Wording.{failed_hydration}

-- the bytes at the path are read, and say the rest: a manifest, or the cause why the file is none
unfoldable pub loading : Path → Plan (Result Contents HydrationCause)
loading p = do
  content ← read p
  Done (reading content p)

-- a manifest, or the refusal of the file at a path, in Yarn's words
abbrev pub or_refused : Path → Result Contents HydrationCause → Result Contents Refusal
or_refused p (Ok m) = Ok m
or_refused p (Err cause) = Err (NoManifest (failed_hydration cause p))

-- the manifest that the file at a path is, where a cause is told in Yarn's words
unfoldable pub told_loading : Path → Plan (Result Contents Refusal)
told_loading p = do
  result ← loading p
  Done (or_refused p result)
