-- What the search of a folder and of a place tells of a tree: the laws by which a reader checks the plans. Each `do`
-- here is over what is told.
use Rattle.std.specs.Prelude.{◌≡◌, if◌then◌else◌, ℕ, List, Option, Some, None}
use Rattle.sugar_path.specs.Path.{Path, clean}
use Rattle.tree_core.specs.Tree.{Files}
use Rattle.tree_core.specs.Told.{Told, told, unasked, ◌>>=◌, made, file_on, read_on, first_file_on}
use Rattle.swc_loader.specs.declared.target.TargetEnv.{TargetEnv}
use Rattle.swc_loader.specs.declared.entry.PackageEntry.{PackageEntry}
use Rattle.swc_loader.specs.declared.entry.PackageEntry.TheVariants as entry
use Rattle.swc_loader.specs.declared.search.Searched.{Searched}
use Rattle.swc_loader.specs.declared.search.Searched.TheVariants.{File, Nothing, Malformed, Unfound}
use Rattle.swc_loader.specs.Conventions.{Conventions}
use Rattle.swc_loader.specs.Entry as of
use Rattle.swc_loader.specs.Search.{
  index_files,
  places,
  place_without_entry,
  package_file,
  found_or,
  entry_places,
  specified_files,
  folder,
  place_at,
}

-- the first of paths that is a file
abbrev pub first_or_on : Files → Searched → List Path → Told Searched
first_or_on t missed ps = made (found_or missed) (first_file_on t ps)

abbrev pub first_on : Files → List Path → Told Searched
first_on t ps = first_or_on t Nothing ps

-- what a folder's entry leads to
abbrev pub by_entry_on : Files → Conventions → Path → PackageEntry → Told Searched
by_entry_on t c d entry.Malformed = unasked (Malformed (package_file d))
by_entry_on t c d entry.Missing = first_on t (index_files c d)
by_entry_on t c d (entry.At text) = first_or_on t Unfound (entry_places c d text)

-- a folder that has a package.json: by the entry that its bytes name
abbrev pub packaged_on : Files → Conventions → TargetEnv → Path → Told Searched
packaged_on t c env d = do
  content ← read_on t (package_file d)
  by_entry_on t c d (of.entry c env content)

-- a folder: by its entry where its package.json is a file, else the first of its index files that is one
abbrev pub folder_on : Files → Conventions → TargetEnv → Path → Told Searched
folder_on t c env d = do
  there ← file_on t (package_file d)
  if there then packaged_on t c env d else first_on t (index_files c d)

-- a file that was found ends the search, and else it goes on
abbrev pub or_folder : Option Path → Told Searched → Told Searched
or_folder (Some f) next = unasked (File f)
or_folder None next = next

-- the place of a text that means a path: the first of its file candidates that is a file, else what its folder gives
abbrev pub place_at_on : Files → Conventions → TargetEnv → Path → List ℕ → Told Searched
place_at_on t c env p text = do
  found ← first_file_on t (specified_files c p text)
  or_folder found (folder_on t c env p)

-- the place of a text that is read from a folder
abbrev pub place_on : Files → Conventions → TargetEnv → Path → List ℕ → Told Searched
place_on t c env cwd text = place_at_on t c env (clean cwd text) text

-- the search of a folder, on each tree
pub record FolderOnTree : Type 0 where
  pub tells : (t : Files) (c : Conventions) (env : TargetEnv) (d : Path) →
      told t (folder c env d) ≡ folder_on t c env d

-- the search of the place of any text that means a path, on each tree
pub record PlaceOnTree : Type 0 where
  pub tells : (t : Files) (c : Conventions) (env : TargetEnv) (p : Path) (text : List ℕ) →
      told t (place_at c env p text) ≡ place_at_on t c env p text

-- the search of a place without entry, on each tree
pub record PlainPlaceOnTree : Type 0 where
  pub tells : (t : Files) (c : Conventions) (cwd : Path) (text : List ℕ) →
      told t (place_without_entry c cwd text) ≡ first_file_on t (places c cwd text)
