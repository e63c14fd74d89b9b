-- A resolver that keeps the latest answers, over any inner order.
use Rattle.std.specs.Prelude.{
  ℕ,
  ◌-◌,
  ◌≤◌,
  ◌&&◌,
  Bool,
  true,
  false,
  bytes_eq,
  length,
  take,
  List,
  ◌∷◌,
  Option,
  Some,
  None,
  Result,
  Ok,
}
use Rattle.std.specs.List.{IsDistinct}
use Rattle.std.specs.Map.{keys_of, lookup, lookup_entry, remove_entry}
use Rattle.tree_core.specs.Plan.{Plan, Done}
use Rattle.swc_loader.specs.declared.resolution.FileName.{FileName}
use Rattle.swc_loader.specs.declared.resolution.FileName.TheVariants.{Real, Custom, Anon}
use Rattle.swc_loader.specs.declared.resolution.Resolution.{Resolution}
use Rattle.resolver_core.specs.declared.cache.CachedRequest.{CachedRequest}
use Rattle.resolver_core.specs.Mapping.{Order}

-- requests with their answers, the most recently used first
abbrev pub Kept : Type 0
Kept = List (CachedRequest × Resolution)

abbrev pub request : FileName → List ℕ → CachedRequest
request base specifier = record { base = base; specifier = specifier }

-- two names are one
abbrev pub name_eq : FileName → FileName → Bool
name_eq (Real a) (Real b) = bytes_eq a b
name_eq (Custom a) (Custom b) = bytes_eq a b
name_eq Anon Anon = true
name_eq _ _ = false

-- two requests are one
abbrev pub request_eq : CachedRequest → CachedRequest → Bool
request_eq a b = name_eq a.base b.base && bytes_eq a.specifier b.specifier

-- the answer that is kept for a request
abbrev pub kept_answer : Kept → CachedRequest → Option Resolution
kept_answer kept r = lookup (request_eq r) kept

abbrev pub or_asked : {X : Type 0} → Plan (Result Resolution X) → Option Resolution → Plan (Result Resolution X)
or_asked inner (Some answer) = Done (Ok answer)
or_asked inner None = inner

-- the order of a resolver that keeps answers: a kept one asks nothing
abbrev pub caching_order : {X : Type 0} → Order X → Kept → Order X
caching_order inner kept base s = or_asked (inner base s) (kept_answer kept (request base s))

-- a kept answer moves to the front; a new one is put there, and the last of a full list goes
abbrev pub put_first : ℕ → CachedRequest → Resolution → Kept → Option (CachedRequest × Resolution) → Kept
put_first capacity r answer kept (Some entry) = entry ∷ remove_entry (request_eq r) kept
put_first capacity r answer kept None = (r, answer) ∷ take (capacity - 1) kept

-- the list after an answer
abbrev pub kept_after : ℕ → CachedRequest → Resolution → Kept → Kept
kept_after capacity r answer kept = put_first capacity r answer kept (lookup_entry (request_eq r) kept)

-- what holds of each list of kept answers: no request stands in it twice, and it has at most as many entries as may be
-- kept
pub record IsKept (capacity : ℕ) (kept : Kept) : Type 0 where
  pub distinct : IsDistinct request_eq (keys_of kept)
  pub few : length kept ≤ capacity

-- what a resolver that keeps answers hangs on: its list, its capacity, and what the inner one hangs on
pub record CacheView (V : Type 0) : Type 0 where
  pub kept : Kept
  pub capacity : ℕ
  pub inner : V
