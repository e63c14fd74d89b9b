-- The walk up through the folders' `node_modules`, as Node looks for packages. Each `do` here is over plans.
use Rattle.std.specs.Prelude.{ℕ, Bool, true, false, not, ◌||◌, if◌then◌else◌, List, [], ◌∷◌, bytes_eq, codes}
use Rattle.sugar_path.specs.Path.{Path, join, text_of}
use Rattle.tree_core.specs.Plan.{Plan, Done, ◌>>=◌, folder_there}
use Rattle.swc_loader.specs.declared.target.TargetEnv.{TargetEnv}
use Rattle.swc_loader.specs.declared.search.Searched.{Searched}
use Rattle.swc_loader.specs.declared.search.Searched.TheVariants.{File, Nothing, Malformed, Unfound}
use Rattle.swc_loader.specs.Conventions.{Conventions}
use Rattle.swc_loader.specs.Search.{place}

-- the `node_modules` of a folder
abbrev pub modules_of : Path → Path
modules_of d = codes "node_modules" ∷ d

-- the text of a target in a folder's `node_modules`
abbrev pub text_in_modules : Path → List ℕ → List ℕ
text_in_modules d target = join (text_of (modules_of d)) target

-- a folder with this very name may have none of its own
abbrev pub may_have_modules : Conventions → Path → Bool
may_have_modules c [] = true
may_have_modules c (n ∷ d) = c.modules_in_modules || not (bytes_eq n (codes "node_modules"))

-- the target in one folder's `node_modules`, where that is a folder
unfoldable pub in_its_modules : Conventions → TargetEnv → List ℕ → Path → Plan Searched
in_its_modules c env target d = do
  there ← folder_there (modules_of d)
  if there then place c env [] (text_in_modules d target) else Done Nothing

-- a folder that may have none isn't asked
abbrev pub in_modules : Conventions → TargetEnv → List ℕ → Path → Plan Searched
in_modules c env target d = if may_have_modules c d then in_its_modules c env target d else Done Nothing

-- A file ends the walk. Nothing goes on, and what else a search comes to ends it where the conventions say so.
abbrev pub ends_walk : Conventions → Searched → Bool
ends_walk c (File f) = true
ends_walk c Nothing = false
ends_walk c (Malformed p) = c.malformed_ends_walk
ends_walk c Unfound = c.unfound_ends_walk

abbrev pub or_higher : Conventions → Searched → Plan Searched → Plan Searched
or_higher c found next = if ends_walk c found then Done found else next

-- the first of folders whose `node_modules` has the target decides
abbrev pub walk : Conventions → TargetEnv → List ℕ → List Path → Plan Searched
walk c env target [] = Done Nothing
walk c env target (d ∷ ds) = do
  found ← in_modules c env target d
  or_higher c found (walk c env target ds)
