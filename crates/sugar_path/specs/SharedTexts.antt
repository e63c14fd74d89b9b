-- How the code finds the way between two places by their texts.
use Rattle.std.specs.Prelude.{◌≡◌, ◌<◌, ◌+◌, ℕ, List, length, drop}
use Rattle.sugar_path.specs.Path.{parts}
use Rattle.sugar_path.specs.Relative.{between}

-- a slash stands at a place of both texts, and the way leads through what is behind it
pub record SharesSlash (base target : List ℕ) (k : ℕ) : Type 0 where
  pub in_base : k < length base
  pub in_target : k < length target
  pub way : between (parts (drop (k + 1) base)) (parts (drop (k + 1) target)) ≡ between (parts base) (parts target)
