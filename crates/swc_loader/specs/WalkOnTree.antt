-- What the walk tells of a tree: the law by which a reader checks the plan. Each `do` here is over what is told.
use Rattle.std.specs.Prelude.{◌≡◌, ℕ, if◌then◌else◌, List, [], ◌∷◌}
use Rattle.sugar_path.specs.Path.{Path}
use Rattle.tree_core.specs.Tree.{Files}
use Rattle.tree_core.specs.Told.{Told, told, unasked, ◌>>=◌, folder_there_on}
use Rattle.swc_loader.specs.declared.target.TargetEnv.{TargetEnv}
use Rattle.swc_loader.specs.declared.search.Searched.{Searched}
use Rattle.swc_loader.specs.declared.search.Searched.TheVariants.{Nothing}
use Rattle.swc_loader.specs.Conventions.{Conventions}
use Rattle.swc_loader.specs.SearchOnTree.{place_on}
use Rattle.swc_loader.specs.Walk.{modules_of, text_in_modules, may_have_modules, ends_walk, walk}

-- what one folder's `node_modules` has of a target, where that is a folder
abbrev pub in_its_modules_on : Files → Conventions → TargetEnv → List ℕ → Path → Told Searched
in_its_modules_on t c env target d = do
  there ← folder_there_on t (modules_of d)
  if there then place_on t c env [] (text_in_modules d target) else unasked Nothing

-- a folder that may have none isn't asked
abbrev pub in_modules_on : Files → Conventions → TargetEnv → List ℕ → Path → Told Searched
in_modules_on t c env target d =
    if may_have_modules c d then in_its_modules_on t c env target d else unasked Nothing

-- a file ends the walk, and else it goes on, unless the conventions say otherwise
abbrev pub unless_ended : Conventions → Searched → Told Searched → Told Searched
unless_ended c found higher = if ends_walk c found then unasked found else higher

-- what the first folder gives whose `node_modules` has the target
abbrev pub walk_on : Files → Conventions → TargetEnv → List ℕ → List Path → Told Searched
walk_on t c env target [] = unasked Nothing
walk_on t c env target (d ∷ ds) = do
  found ← in_modules_on t c env target d
  unless_ended c found (walk_on t c env target ds)

-- the walk, on each tree
pub record WalkOnTree : Type 0 where
  pub tells : (t : Files) (c : Conventions) (env : TargetEnv) (target : List ℕ) (ds : List Path) →
      told t (walk c env target ds) ≡ walk_on t c env target ds
