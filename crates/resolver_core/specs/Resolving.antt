-- What a resolver's result says, and the law of every resolver's order.
use Rattle.std.specs.Prelude.{◌≡◌, ℕ, List, Result, Ok, Err}
use Rattle.tree_core.specs.declared.resolve_error.ResolveError.{ResolveError}
use Rattle.tree_core.specs.declared.resolve_error.ResolveError.TheVariants.{Refused, TreeFault, NoMemory}
use Rattle.tree_core.specs.Tree.{Files, AgreeOn}
use Rattle.tree_core.specs.Plan.{Plan, answer, asked}
use Rattle.swc_loader.specs.declared.resolution.FileName.{FileName}
use Rattle.swc_loader.specs.declared.resolution.Resolution.{Resolution}

-- the order of search ended in a refusal
abbrev pub IsRefused : {A X : Type 0} → Result A (ResolveError X) → Type 0
IsRefused (Ok a) = ⊥
IsRefused (Err (Refused x)) = Unit {0}
IsRefused (Err TreeFault) = ⊥
IsRefused (Err NoMemory) = ⊥

-- The law of an order of search, which hangs on a view: trees that give the same replies to what one of them is asked
-- by a request come to one answer or refusal, and are asked the same. So what was asked of a tree, with its replies,
-- decides.
pub record TrailsSuffice {V X : Type 0}
    (order : V → FileName → List ℕ → Plan (Result Resolution X)) : Type 0 where
  pub decides : (t u : Files) (view : V) (base : FileName) (specifier : List ℕ) →
      AgreeOn t u (asked t (order view base specifier)) →
      answer u (order view base specifier) ≡ answer t (order view base specifier)
  pub alike : (t u : Files) (view : V) (base : FileName) (specifier : List ℕ) →
      AgreeOn t u (asked t (order view base specifier)) →
      asked u (order view base specifier) ≡ asked t (order view base specifier)
