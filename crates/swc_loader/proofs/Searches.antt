-- The plans of the searches tell of a tree what the laws say.
use Rattle.std.proofs.Common.{◌≡◌, ℕ, List, Option, Some, None, ap, ◌∙◌}
use Rattle.sugar_path.specs.Path.{Path}
use Rattle.tree_core.specs.Tree.{Files}
use Rattle.tree_core.specs.Plan.{file, read, first_file}
use Rattle.tree_core.specs.Told.{told, made}
use Rattle.tree_core.proofs.Tellings.{told-done, told-by, told-made, told-if, told-file, told-read, told-first_file}
use Rattle.swc_loader.specs.declared.target.TargetEnv.{TargetEnv}
use Rattle.swc_loader.specs.declared.entry.PackageEntry.{PackageEntry}
use Rattle.swc_loader.specs.declared.entry.PackageEntry.TheVariants as entry
use Rattle.swc_loader.specs.declared.search.Searched.{Searched}
use Rattle.swc_loader.specs.declared.search.Searched.TheVariants.{File, Nothing, Malformed, Unfound}
use Rattle.swc_loader.specs.Conventions.{Conventions}
use Rattle.swc_loader.specs.Search.{
  package_file,
  index_files,
  entry_places,
  places,
  found_or,
  first_or,
  by_entry,
  packaged,
  folder,
  or_else,
  specified_files,
  place_at,
}
use Rattle.swc_loader.specs.SearchOnTree.{
  first_or_on,
  by_entry_on,
  packaged_on,
  folder_on,
  or_folder,
  place_at_on,
  FolderOnTree,
  PlaceOnTree,
  PlainPlaceOnTree,
}

told-found : (t : Files) (missed : Searched) (ps : List Path) → told t (first_or missed ps) ≡ first_or_on t missed ps
unfolding first_or
told-found t missed ps =
    told-made t (first_file ps) (found_or missed) ∙ ap (made (found_or missed)) (told-first_file t ps)

told-entry : (t : Files) (c : Conventions) (d : Path) (e : PackageEntry) → told t (by_entry c d e) ≡ by_entry_on t c d e
told-entry t c d entry.Malformed = told-done t (Malformed (package_file d))
told-entry t c d entry.Missing = told-found t Nothing (index_files c d)
told-entry t c d (entry.At text) = told-found t Unfound (entry_places c d text)

told-packaged : (t : Files) (c : Conventions) (env : TargetEnv) (d : Path)
    → told t (packaged c env d) ≡ packaged_on t c env d
unfolding packaged
told-packaged t c env d =
    told-by t (read (package_file d)) _ (told-read t (package_file d)) (λ content. told-entry t c d _)

told-folder : (t : Files) (c : Conventions) (env : TargetEnv) (d : Path) → told t (folder c env d) ≡ folder_on t c env d
unfolding folder
told-folder t c env d =
    told-by t (file (package_file d)) _ (told-file t (package_file d))
    (λ there. told-if t there _ _ (told-packaged t c env d) (told-found t Nothing (index_files c d)))

told-place : (t : Files) (c : Conventions) (env : TargetEnv) (p : Path) (text : List ℕ)
    → told t (place_at c env p text) ≡ place_at_on t c env p text
unfolding place_at
told-place t c env p text =
    told-by t (first_file (specified_files c p text)) _ (told-first_file t (specified_files c p text)) by_found
  where
    by_found : (found : Option Path) → told t (or_else found (folder c env p)) ≡ or_folder found (folder_on t c env p)
    by_found (Some f) = told-done t (File f)
    by_found None = told-folder t c env p

pub folder_on_tree : FolderOnTree
folder_on_tree = record { tells = told-folder }

pub place_on_tree : PlaceOnTree
place_on_tree = record { tells = told-place }

pub place_without_entry_on_tree : PlainPlaceOnTree
place_without_entry_on_tree = record { tells = λ t c cwd text. told-first_file t (places c cwd text) }
