-- The way up through folders, one at a time.
use Rattle.std.proofs.Common.{
  ◌≡◌,
  ◌<◌,
  ℕ,
  Bool,
  true,
  false,
  not,
  List,
  [],
  ◌∷◌,
  Result,
  length,
  refl,
  subst,
  arith,
}
use Rattle.sugar_path.specs.Path.{Path, parent, is_root, up}
use Rattle.tree_core.specs.declared.tree.ReadError.{ReadError}
use Rattle.tree_core.specs.Asks.{Asking, Asks}
use Rattle.swc_loader.specs.declared.target.TargetEnv.{TargetEnv}
use Rattle.swc_loader.specs.Conventions.{Conventions}
use Rattle.swc_loader.specs.declared.search.Searched.{Searched}
use Rattle.swc_loader.specs.Walk.{walk}

-- where there is a folder above, the way up goes on from it
pub up-above : (d : Path) (went : Bool) → went ≡ not (is_root d) → went ≡ true → up d ≡ parent d ∷ up (parent d)
up-above [] went is rises = cc
up-above (n ∷ d) went is rises = refl

pub up-root : (d : Path) (went : Bool) → went ≡ not (is_root d) → went ≡ false → up d ≡ []
up-root [] went is stays = refl
up-root (n ∷ d) went is stays = cc

pub up-shorter : (d : Path) (went : Bool) → went ≡ not (is_root d) → went ≡ true → length (parent d) < length d
up-shorter [] went is rises = cc
up-shorter (n ∷ d) went is rises = omega arith

-- a call by the walk, where the code has read the settings itself
pub asks_walk : {old new : Asking} {result : Result Searched ReadError} {c c' : Conventions} {env env' : TargetEnv}
    (target : List ℕ) (ds : List Path) → c' ≡ c → env' ≡ env → Asks old new result (walk c' env' target ds)
    → Asks old new result (walk c env target ds)
asks_walk {old = old} {new = new} {result = result} {c = c} {env' = env'} target ds conventions env h =
    let C : Conventions → Type 0 = λ x. Asks old new result (walk x env' target ds) in
    let E : TargetEnv → Type 0 = λ x. Asks old new result (walk c x target ds) in
    subst E env (subst C conventions h)
