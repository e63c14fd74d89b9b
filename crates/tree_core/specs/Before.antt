-- The last path of a file in front of a text, in byte order.
use Rattle.std.specs.Prelude.{◌≡◌, ℕ, true, IsSome, IsTrue, List, Option, Some, None, length, nat_eq}
use Rattle.std.specs.FinMap.{get}
use Rattle.std.specs.List.{common_prefix_len}
use Rattle.std.specs.Ordering.{nat_cmp, is_le}
use Rattle.std.specs.Cmp.Lexicographic.{slice_cmp}
use Rattle.std.specs.declared.cmp.Ordering.TheVariants.{Less}
use Rattle.tree_core.specs.Tree.{Files, stands_above}

-- a path is no later than another that there may be
abbrev pub IsNoLater : List ℕ → Option (List ℕ) → Type 0
IsNoLater q None = ⊥
IsNoLater q (Some p) = is_le (slice_cmp nat_cmp q p) ≡ true

-- no file in front of a text is later than the path
abbrev pub HasNoLater : Files → List ℕ → Option (List ℕ) → Type 0
HasNoLater t text last = (q : List ℕ) → IsSome (get t q) → slice_cmp nat_cmp q text ≡ Less → IsNoLater q last

-- what a path shares with another is no file above the path
abbrev pub SharesNoFile : Files → List ℕ → List ℕ → Type 0
SharesNoFile t path other =
    (q : List ℕ) → IsSome (get t q) → IsTrue (stands_above q path) → length q ≡ common_prefix_len nat_eq path other → ⊥
