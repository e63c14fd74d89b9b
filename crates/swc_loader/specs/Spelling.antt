-- By which name a file is answered. Each `do` here is over plans.
use Rattle.std.specs.Prelude.{ℕ, Bool, if◌then◌else◌, List, Option, Some, None}
use Rattle.sugar_path.specs.Path.{Path, text_of}
use Rattle.sugar_path.specs.Relative.{relative_from}
use Rattle.tree_core.specs.Plan.{Plan, Done, ◌>>=◌, canon}
use Rattle.swc_loader.specs.declared.resolution.FileName.{FileName}
use Rattle.swc_loader.specs.declared.resolution.FileName.TheVariants.{Real, Custom}
use Rattle.swc_loader.specs.declared.resolution.Resolution.{Resolution}
use Rattle.swc_loader.specs.declared.resolution.Via.{Via}
use Rattle.swc_loader.specs.Settings.{NodeSettings}

-- the canonical name of a file, or its path where the tree gives none
abbrev pub canonical_or_path : Path → Option (List ℕ) → List ℕ
canonical_or_path f None = text_of f
canonical_or_path f (Some name) = name

-- the path from the working folder to a file
abbrev pub from_working_folder : Path → Path → List ℕ
from_working_folder cwd f = relative_from (text_of cwd) (text_of cwd) (text_of f)

-- the path of a file as it is written, by the row that answers it
abbrev pub path_as_written : NodeSettings → Path → Bool → List ℕ
path_as_written s f relative = if relative then from_working_folder s.cwd f else text_of f

unfoldable pub canonical_name : Path → Plan FileName
canonical_name f = do
  name ← canon f
  Done (Real (canonical_or_path f name))

-- The name that a file is answered by: its canonical name, or, where links are preserved, its path, which asks nothing.
abbrev pub spelled : NodeSettings → Path → Bool → Plan FileName
spelled s f relative =
    if s.preserve_symlinks then Done (Real (path_as_written s f relative)) else canonical_name f

-- the answer of a file that was found, by way of a row or without one
abbrev pub answer_of : Option Via → Path → FileName → Resolution
answer_of via f name =
    record { filename = name; slug = None; found = Some (record { file = text_of f; via = via }) }

-- A name that isn't looked for as a file: that of a builtin module, or of what a rule ignores. It is answered without a
-- file.
abbrev pub custom : List ℕ → Resolution
custom name = record { filename = Custom name; slug = None; found = None }

-- a file's answer, by its name
unfoldable pub answered : NodeSettings → Option Via → Path → Bool → Plan Resolution
answered s via f relative = do
  name ← spelled s f relative
  Done (answer_of via f name)
