-- The rows of the order behind one of them, for the parts of the code that begin there. No public clause names them;
-- each is the rest of `join` by its unfolding.
-- A `do` here is over rows, which are plans of results: the next row goes on with what a row gives, and a row's error
-- ends them all.
use Rattle.std.specs.Prelude.{ℕ, List, Option, Result, Ok, Err}
use Rattle.sugar_path.specs.Path.{Path}
use Rattle.tree_core.specs.declared.tree.ReadError.{ReadError}
use Rattle.tree_core.specs.Asks.{widened}
use Rattle.tree_core.specs.Rows.{Row, decided, refuses_by}
use Rattle.tree_core.specs.Resolving.{◌>>=◌}
use Rattle.pnp_core.specs.declared.manifest.PackageLocator.{PackageLocator}
use Rattle.pnp_core.specs.Manifest.{Contents}
use Rattle.swc_loader.specs.declared.resolution.Resolution.{Resolution}
use Rattle.swc_loader.specs.NodeRows.{target_before_search}
use Rattle.resolve_stack.specs.declared.verdict.JoinRefusal.{JoinRefusal}
use Rattle.resolve_stack.specs.Settings.{ProjectSettings, path_of}
use Rattle.resolve_stack.specs.Request.{Request}
use Rattle.resolve_stack.specs.Rows.{owner_of, bare_target, identifier_of, bound_of, checked_row, folder_of}
use Rattle.resolve_stack.specs.Rows.{exported_file, found_at, unless_ignored, contained, via_of, answered_through}

-- behind the folder of the row: the search there, its containment and the answer
abbrev pub folder_rows : ProjectSettings → PackageLocator → Path → Option (List ℕ) →
    Row Resolution Resolution JoinRefusal
folder_rows project bound folder subpath = do
  exported ← refuses_by (exported_file project folder subpath)
  placed ← refuses_by (found_at project folder subpath exported)
  found ← unless_ignored placed
  file ← decided (contained folder found.0)
  refuses_by (answered_through project (via_of bound folder) file found.1)

-- behind a bare target: its binding by the owner's row, the checks of that, and the search at the location of the row
abbrev pub bare_rows : ProjectSettings → Contents → PackageLocator → Path → List ℕ →
    Row Resolution Resolution JoinRefusal
bare_rows project manifest owner importer target = do
  identifier ← decided (identifier_of target)
  locator ← decided (bound_of manifest owner importer target identifier.0)
  location ← refuses_by (checked_row project manifest owner identifier.0 locator)
  folder ← decided (folder_of location)
  folder_rows project locator folder identifier.1

-- behind the owner: what is known before a search, and then the target
abbrev pub owned_rows : ProjectSettings → Request → List ℕ → Contents → PackageLocator →
    Row Resolution Resolution JoinRefusal
owned_rows project request base manifest owner = do
  target ← target_before_search project.node (path_of project base) request.specifier
  named ← bare_target project base target
  bare_rows project manifest owner (path_of project base) named

-- behind the reading of the manifest
abbrev pub manifest_rows : ProjectSettings → Request → List ℕ → Contents → Row Resolution Resolution JoinRefusal
manifest_rows project request base manifest = do
  owner ← owner_of project request manifest base
  owned_rows project request base manifest owner

-- what a search comes to, with the refusals of the order above it
abbrev pub raised_result : {A X Y : Type 0} → (X → Y) → Result (Result A X) ReadError → Result (Result A Y) ReadError
raised_result wide (Ok result) = Ok (widened wide result)
raised_result wide (Err e) = Err e
