-- Calls by the order of a mapping.
use Rattle.std.proofs.Common.{◌≡◌, ℕ, List, Result, Ok, Err, refl, sym, ◌∙◌}
use Rattle.tree_core.specs.declared.tree.ReadError.{ReadError}
use Rattle.tree_core.specs.Plan.{Done, ◌>>=◌, on_ok}
use Rattle.tree_core.specs.Asks.{Asking, Asks}
use Rattle.tree_core.proofs.RowOrders.{then-then, then_alike}
use Rattle.tree_core.proofs.RowCalls.{by_plan}
use Rattle.tree_core.proofs.Asking.{asks_then, asks_done, asks_fails}
use Rattle.swc_loader.specs.declared.resolution.FileName.{FileName}
use Rattle.swc_loader.specs.declared.resolution.Resolution.{Resolution}
use Rattle.resolver_core.specs.Mapping.{Order, masked, plain, tried}

-- an answered try, made into another answer
abbrev pub made : {X : Type 0} → (Resolution → Resolution) → Result Resolution X → Result Resolution X
made f (Ok r) = Ok (f r)
made f (Err x) = Err x

-- A try whose success is answered in a way of its own is a plain one, and then that.
pub tried-made : {X : Type 0} (inner : Order X) (base : FileName) (s : List ℕ) (f : Resolution → Resolution)
    → tried inner (record { base = base; specifier = s; answer = f }) ≡ tried inner (plain base s)
    >>= λ r. Done (made f r)
unfolding tried ◌>>=◌
tried-made {X = X} inner base s f = sym (then-then (inner base s) (on_ok (λ r. Done (Ok (masked base s r))))
    (λ r. Done (made f r)) ∙ then_alike (inner base s) _ _ by_result)
  where
    by_result : (r : Result Resolution X) → (on_ok (λ r. Done (Ok (masked base s r))) r >>= λ r. Done (made f r)) ≡
        on_ok (λ r. Done (Ok (f (masked base s r)))) r
    by_result (Ok r) = refl
    by_result (Err x) = refl

pub tried_ok : {X : Type 0} {old new : Asking} {r : Result Resolution X} (inner : Order X) (base : FileName)
    (s : List ℕ) (f : Resolution → Resolution) → Asks old new (Ok r) (tried inner (plain base s))
    → Asks old new (Ok (made f r)) (tried inner (record { base = base; specifier = s; answer = f }))
tried_ok inner base s f h = by_plan (tried-made inner base s f) (asks_then _ h (asks_done refl))

pub tried_err : {X : Type 0} {old new : Asking} {e : ReadError} (inner : Order X) (base : FileName) (s : List ℕ)
    (f : Resolution → Resolution) → Asks {A = Result Resolution X} old new (Err e) (tried inner (plain base s))
    → Asks {A = Result Resolution X} old new (Err e) (tried inner (record { base = base; specifier = s; answer = f }))
tried_err {e = e} inner base s f h = by_plan (tried-made inner base s f) (asks_fails _ (Err e) refl h)
