-- The way up to the nearest manifest, one folder at a time.
use Rattle.std.proofs.Common.{◌≡◌, ◌<◌, Bool, true, false, not, cond, [], ◌∷◌, Some, None, length, refl, arith}
use Rattle.sugar_path.specs.Path.{Path, parent, is_root}
use Rattle.tree_core.specs.Plan.{Done, ◌>>=◌, exists}
use Rattle.pnp_core.specs.Nearest.{manifest_file, nearest}

pub nearest-step : (d : Path) → nearest d ≡ (exists (manifest_file d)
    >>= λ there. cond there (Done (Some (manifest_file d))) (cond (is_root d) (Done None) (nearest (parent d))))
unfolding nearest
nearest-step [] = refl
nearest-step (n ∷ d) = refl

-- what a folder is told to be
pub told : (up b : Bool) → up ≡ not b → up ≡ true → b ≡ false
told up true is went = cc
told up false is went = refl

pub told_root : (up b : Bool) → up ≡ not b → up ≡ false → b ≡ true
told_root up true is stays = refl
told_root up false is stays = cc

pub parent-shorter : (d : Path) → is_root d ≡ false → length (parent d) < length d
parent-shorter [] is = cc
parent-shorter (n ∷ d) is = omega arith
