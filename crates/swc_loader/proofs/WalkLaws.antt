-- The walk tells of a tree what its law says.
use Rattle.std.proofs.Common.{◌≡◌, ℕ, List, [], ◌∷◌}
use Rattle.sugar_path.specs.Path.{Path, clean}
use Rattle.tree_core.specs.Tree.{Files}
use Rattle.tree_core.specs.Plan.{folder_there}
use Rattle.tree_core.specs.Told.{told}
use Rattle.tree_core.proofs.Tellings.{told-done, told-by, told-if, told-folder_there}
use Rattle.swc_loader.specs.declared.target.TargetEnv.{TargetEnv}
use Rattle.swc_loader.specs.declared.search.Searched.{Searched}
use Rattle.swc_loader.specs.declared.search.Searched.TheVariants.{Nothing}
use Rattle.swc_loader.specs.Conventions.{Conventions}
use Rattle.swc_loader.specs.Walk.{
  modules_of,
  text_in_modules,
  may_have_modules,
  in_its_modules,
  in_modules,
  ends_walk,
  or_higher,
  walk,
}
use Rattle.swc_loader.specs.WalkOnTree.{in_its_modules_on, in_modules_on, unless_ended, walk_on, WalkOnTree}
use Rattle.swc_loader.proofs.Searches.{place_on_tree}

told-in_its_modules : (t : Files) (c : Conventions) (env : TargetEnv) (target : List ℕ) (d : Path)
    → told t (in_its_modules c env target d) ≡ in_its_modules_on t c env target d
unfolding in_its_modules
told-in_its_modules t c env target d =
    let text = text_in_modules d target in
    told-by t (folder_there (modules_of d)) _ (told-folder_there t (modules_of d)) (λ there.
    told-if t there _ _ (place_on_tree.tells t c env (clean [] text) text) (told-done t Nothing))

told-in_modules : (t : Files) (c : Conventions) (env : TargetEnv) (target : List ℕ) (d : Path)
    → told t (in_modules c env target d) ≡ in_modules_on t c env target d
told-in_modules t c env target d =
    told-if t (may_have_modules c d) _ _ (told-in_its_modules t c env target d) (told-done t Nothing)

told-walk : (t : Files) (c : Conventions) (env : TargetEnv) (target : List ℕ) (ds : List Path)
    → told t (walk c env target ds) ≡ walk_on t c env target ds
told-walk t c env target [] = told-done t Nothing
told-walk t c env target (d ∷ ds) =
    told-by t (in_modules c env target d) _ (told-in_modules t c env target d) (by_found (told-walk t c env target ds))
  where
    by_found : told t (walk c env target ds) ≡ walk_on t c env target ds → (found : Searched)
        → told t (or_higher c found (walk c env target ds)) ≡ unless_ended c found (walk_on t c env target ds)
    by_found higher found = told-if t (ends_walk c found) _ _ (told-done t found) higher

pub walk_on_tree : WalkOnTree
walk_on_tree = record { tells = told-walk }
