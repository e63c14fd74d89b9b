-- Lists of kept answers, and calls by the order of a resolver that keeps them.
use Rattle.std.proofs.Common.{
  ◌≡◌,
  ℕ,
  Bool,
  true,
  false,
  cond,
  List,
  [],
  ◌∷◌,
  Option,
  Some,
  None,
  IsSome,
  Result,
  Ok,
  IsErrAnd,
  take,
  ◌-◌,
  refl,
  sym,
  subst,
}
use Rattle.std.specs.Prelude.{option_map}
use Rattle.std.specs.Option.{option_map_or}
use Rattle.std.specs.List.{IsDistinct}
use Rattle.std.specs.Map.{keys_of, lookup, lookup_entry, remove_entry}
use Rattle.lru.specs.LruCache.{LruCache, promoted, put_entries}
use Rattle.tree_core.specs.declared.tree.ReadError.TheVariants.{NoMemory}
use Rattle.tree_core.specs.declared.resolve_error.ResolveError.{ResolveError}
use Rattle.tree_core.specs.Plan.{Plan, Done}
use Rattle.tree_core.specs.Asks.{Asking, Asks}
use Rattle.tree_core.specs.Resolving.{resolving, Resolves}
use Rattle.tree_core.proofs.Asking.{asks_then, asks_starved_in}
use Rattle.tree_core.proofs.RowOrders.{then-done}
use Rattle.tree_core.proofs.RowCalls.{by_plan}
use Rattle.swc_loader.specs.declared.resolution.FileName.{FileName}
use Rattle.swc_loader.specs.declared.resolution.FileName.TheVariants.{Real, Custom, Anon}
use Rattle.swc_loader.specs.declared.resolution.Resolution.{Resolution}
use Rattle.resolver_core.specs.declared.cache.CachedRequest.{CachedRequest}
use Rattle.resolver_core.specs.contracts.cache.CachedRequestPartialEq.TheImpl.{eq-value}
use Rattle.resolver_core.specs.Caching.{Kept, request_eq, kept_answer, put_first, kept_after}

by_names : (m n : FileName) (s t : List ℕ) → eq-value.it (record { base = m; specifier = s })
    (record { base = n; specifier = t }) ≡ request_eq (record { base = m; specifier = s })
    (record { base = n; specifier = t })
by_names (Real x) (Real y) s t = refl
by_names (Real x) (Custom y) s t = refl
by_names (Real x) Anon s t = refl
by_names (Custom x) (Real y) s t = refl
by_names (Custom x) (Custom y) s t = refl
by_names (Custom x) Anon s t = refl
by_names Anon (Real y) s t = refl
by_names Anon (Custom y) s t = refl
by_names Anon Anon s t = refl

-- the derived test is the definition's
pub is_request_eq : (a b : CachedRequest) → eq-value.it a b ≡ request_eq a b
is_request_eq a b = by_names a.base b.base a.specifier b.specifier

-- Keys that differ by the derived test differ by the definition's.
pub distinct_requests : (kept : Kept) → IsDistinct eq-value.it (keys_of kept) → IsDistinct request_eq (keys_of kept)
distinct_requests kept distinct =
    let P : (CachedRequest → CachedRequest → Bool) → Type 0 = λ eq. IsDistinct eq (keys_of kept) in
    subst P (λ i a b. is_request_eq a b i) distinct

-- what is looked up is the answer of the entry
lookup-entry : {K X : Type 0} (test : K → Bool) (es : List (K × X))
    → lookup test es ≡ option_map (λ e. e.1) (lookup_entry test es)
lookup-entry test [] = refl
lookup-entry test (e ∷ es) = by_test (test e.0) (lookup-entry test es)
  where
    by_test : (b : Bool) → lookup test es ≡ option_map (λ e. e.1) (lookup_entry test es)
        → cond b (Some e.1) (lookup test es) ≡ option_map (λ e. e.1) (cond b (Some e) (lookup_entry test es))
    by_test true later = refl
    by_test false later = later

-- A kept answer moves to the front.
pub promoted-kept : (kept : Kept) (r : CachedRequest) (capacity : ℕ) (answer : Resolution) → IsSome (kept_answer kept r)
    → promoted (request_eq r) kept ≡ kept_after capacity r answer kept
promoted-kept kept r capacity answer there =
    by_entry (lookup_entry (request_eq r) kept) (rw (lookup-entry (request_eq r) kept) at there)
  where
    by_entry : (o : Option (CachedRequest × Resolution))
        → IsSome (option_map (λ (e : CachedRequest × Resolution). e.1) o)
        → option_map_or (λ e. e ∷ remove_entry (request_eq r) kept) o kept ≡ put_first capacity r answer kept o
    by_entry (Some e) there = refl
    by_entry None there = cc

-- A new answer is put in front.
pub put-new : (cache : LruCache CachedRequest Resolution) (r : CachedRequest) (answer : Resolution)
    → kept_answer cache.entries r ≡ None → put_entries request_eq cache r answer ≡ kept_after cache.cap r answer
    cache.entries
put-new cache r answer none =
    by_entry (lookup_entry (request_eq r) cache.entries) (rw (lookup-entry (request_eq r) cache.entries) at none)
  where
    by_entry : (o : Option (CachedRequest × Resolution)) → option_map (λ (e : CachedRequest × Resolution). e.1) o ≡ None
        → option_map_or (λ e. (e.0, answer) ∷ remove_entry (request_eq r) cache.entries) o
        ((r, answer) ∷ take (cache.cap - 1) cache.entries) ≡ put_first cache.cap r answer cache.entries o
    by_entry (Some e) none = cc
    by_entry None none = refl

-- A call that answers, and then finds no memory.
pub then_starved : {A X : Type 0} {old new : Asking} {a : Result A X} {p : Plan (Result A X)}
    (r : Result A (ResolveError X)) → IsErrAnd r (λ e. e ≡ resolving.into NoMemory) → Asks old new (Ok a) p
    → Resolves old new r p
then_starved {p = p} r is h = by_plan (sym (then-done p)) (asks_then Done h (asks_starved_in resolving r is))
