-- The search of a folder and of a place, as plans of questions. Each `do` here is over plans.
use Rattle.std.specs.Prelude.{
  ℕ,
  Bool,
  not,
  ◌&&◌,
  if◌then◌else◌,
  List,
  [],
  ◌∷◌,
  ◌++◌,
  flat_map,
  Option,
  Some,
  None,
  codes,
}
use Rattle.sugar_path.specs.Path.{Path, clean, join, text_of}
use Rattle.tree_core.specs.Plan.{Plan, Done, ◌>>=◌, file, read, first_file}
use Rattle.swc_loader.specs.declared.target.TargetEnv.{TargetEnv}
use Rattle.swc_loader.specs.declared.entry.PackageEntry.{PackageEntry}
use Rattle.swc_loader.specs.declared.entry.PackageEntry.TheVariants as entry
use Rattle.swc_loader.specs.declared.search.Searched.{Searched}
use Rattle.swc_loader.specs.declared.search.Searched.TheVariants.{File, Nothing, Malformed, Unfound}
use Rattle.swc_loader.specs.Conventions.{Conventions}
use Rattle.swc_loader.specs.Candidates.{with_endings, in_folder, is_closed, files_at}
use Rattle.swc_loader.specs.Entry as of

-- the index files of a folder, in order: each index name with each ending
abbrev pub index_files : Conventions → Path → List Path
index_files c d = in_folder d (flat_map (λ name. with_endings name c.endings) c.index_names)

-- where a text that means a path may be found without entry: its file candidates, and then the index files of its
-- folder
abbrev pub places_at : Conventions → Path → List ℕ → List Path
places_at c p t = files_at c p t ++ index_files c p

abbrev pub places : Conventions → Path → List ℕ → List Path
places c cwd t = places_at c (clean cwd t) t

-- the place of a text without entry, read from a folder: the first of these that is a file
abbrev pub place_without_entry : Conventions → Path → List ℕ → Plan (Option Path)
place_without_entry c cwd t = first_file (places c cwd t)

-- the package.json of a folder
abbrev pub package_file : Path → Path
package_file d = codes "package.json" ∷ d

-- the file that was found, or else what a search comes to that finds none
abbrev pub found_or : Searched → Option Path → Searched
found_or missed None = missed
found_or missed (Some f) = File f

-- the first of paths that is a file
unfoldable pub first_or : Searched → List Path → Plan Searched
first_or missed ps = do
  found ← first_file ps
  Done (found_or missed found)

abbrev pub first_found : List Path → Plan Searched
first_found ps = first_or Nothing ps

-- An entry's text is searched behind the folder, without entry. The index files follow.
abbrev pub entry_places : Conventions → Path → List ℕ → List Path
entry_places c d text = places c [] (join (text_of d) text) ++ index_files c d

-- what the entry of a folder leads to: a malformed package.json ends the search
abbrev pub by_entry : Conventions → Path → PackageEntry → Plan Searched
by_entry c d entry.Malformed = Done (Malformed (package_file d))
by_entry c d entry.Missing = first_found (index_files c d)
by_entry c d (entry.At text) = first_or Unfound (entry_places c d text)

-- the search of a folder that has a package.json: by its entry
unfoldable pub packaged : Conventions → TargetEnv → Path → Plan Searched
packaged c env d = do
  content ← read (package_file d)
  by_entry c d (of.entry c env content)

-- the search of a folder: by the entry of its package.json where it has one, else by its index files
unfoldable pub folder : Conventions → TargetEnv → Path → Plan Searched
folder c env d = do
  there ← file (package_file d)
  if there then packaged c env d else first_found (index_files c d)

-- a file that was found ends the search, and else it goes on
abbrev pub or_else : Option Path → Plan Searched → Plan Searched
or_else (Some f) next = Done (File f)
or_else None next = next

-- a specifier's text that ends in no name may mean a folder alone
abbrev pub means_folder : Conventions → List ℕ → Bool
means_folder c t = c.folders_by_slash && not (is_closed t)

-- the file candidates of a specifier's text that means a path: one that means a folder has none
abbrev pub specified_files : Conventions → Path → List ℕ → List Path
specified_files c p t = if means_folder c t then [] else files_at c p t

-- the place of a text that means a path: the first of its file candidates that is a file, else what its folder gives
unfoldable pub place_at : Conventions → TargetEnv → Path → List ℕ → Plan Searched
place_at c env p t = do
  found ← first_file (specified_files c p t)
  or_else found (folder c env p)

-- the place of a text that is read from a folder
abbrev pub place : Conventions → TargetEnv → Path → List ℕ → Plan Searched
place c env cwd t = place_at c env (clean cwd t) t
