-- Calls that go by an order, row by row.
use Rattle.std.proofs.Common.{◌≡◌, Result, Ok, Err, IsErrAnd, refl, sym, ap, ◌∙◌, subst}
use Rattle.tree_core.specs.declared.tree.ReadError.{ReadError}
use Rattle.tree_core.specs.declared.resolve_error.ResolveError.{ResolveError}
use Rattle.tree_core.specs.Plan.{Plan, Done, ◌>>=◌, ◌>>=?◌, on_ok}
use Rattle.tree_core.specs.Asks.{Asking, Asks}
use Rattle.tree_core.specs.Resolving.{resolving, Resolves, IsDecided, IsDecidedTo}
use Rattle.tree_core.specs.Rows.{Row, end_of, order, decided, refuses_by, ends_by}
use Rattle.tree_core.proofs.Asking.{
  asks_then,
  asks_as,
  asks_done,
  asks_stops,
  asks_fails_in,
  stops_decided,
  stops_decided_to,
  after_decided,
}
use Rattle.tree_core.proofs.RowOrders.{then-then, order-refuses_by, order-ends_by, order-goes_on, order-last}

-- An order whose first row decides without a question goes on as the decision does.
pub order-decided : {A R X : Type 0} (r : Result A X) (k : A → Row R R X) → order (decided r >>=? k) ≡ Done r
    >>=? λ a. order (k a)
unfolding order ◌>>=◌
order-decided (Ok a) k = refl
order-decided (Err x) k = refl

-- An order whose first row is a plan and the row that its answer gives.
pub order-then : {A B R X : Type 0} (p : Plan A) (f : A → Row B R X) (k : B → Row R R X) → order ((p >>= f) >>=? k) ≡ p
    >>= λ a. order (f a >>=? k)
unfolding order
order-then p f k = ap (λ q. q >>= λ going. Done (end_of going)) (then-then p f (on_ok k))
    ∙ then-then p (λ a. f a >>= on_ok k) (λ going. Done (end_of going))

-- An equal plan does as well.
pub by_plan : {A : Type 0} {old new : Asking} {r : Result A ReadError} {p q : Plan A} → q ≡ p → Asks old new r p
    → Asks old new r q
by_plan {A = A} {old = old} {new = new} {r = r} same h =
    let P : Plan A → Type 0 = λ x. Asks old new r x in subst P (sym same) h

-- After a row that asks and answers, the order goes on.
pub after_row : {A R X : Type 0} {old mid new : Asking} {a : A} {r : Result (Result R X) ReadError}
    {p : Plan (Result A X)} (k : A → Row R R X) → Asks old mid (Ok (Ok a)) p → Asks mid new r (order (k a))
    → Asks old new r (order (refuses_by p >>=? k))
after_row {p = p} k first rest = by_plan (order-refuses_by p k) (asks_then (on_ok (λ a. order (k a))) first rest)

-- The exit of a `?` on a row that asks.
pub stops_row : {A R X : Type 0} {old new : Asking} {p : Plan (Result A X)} (k : A → Row R R X) (e : ResolveError X)
    (r : Result R (ResolveError X)) → IsErrAnd r (λ x. x ≡ e) → Resolves {A = A} old new (Err e) p
    → Resolves old new r (order (refuses_by p >>=? k))
stops_row {A = A} {p = p} k e r is h =
    by_plan (order-refuses_by p k) (asks_stops {A = A} resolving (λ a. order (k a)) e r is h)

-- After a row that decides a value without a question, the order goes on.
pub after_decision : {A R X : Type 0} {old new : Asking} {a : A} {d : Result A X} {r : Result (Result R X) ReadError}
    (k : A → Row R R X) → d ≡ Ok a → Asks old new r (order (k a)) → Asks old new r (order (decided d >>=? k))
after_decision {d = d} k is rest = by_plan (order-decided d k) (after_decided (λ a. order (k a)) is rest)

-- The exit of a `?` on such a row.
pub stops_decision : {A R X : Type 0} {s : Asking} (d : Result A X) (k : A → Row R R X) (e : ResolveError X)
    (r : Result R (ResolveError X)) → IsErrAnd r (λ x. x ≡ e) → IsDecided {A = A} (Err e) d
    → Resolves s s r (order (decided d >>=? k))
stops_decision {A = A} d k e r is h = by_plan (order-decided d k) (stops_decided {A = A} d (λ a. order (k a)) e r is h)

-- The exit of a `?` on a row that asks nothing and lends its value.
pub stops_decision_to : {A R X : Type 0} {s : Asking} (d : Result A X) (k : A → Row R R X) (e : ResolveError X)
    (r : Result R (ResolveError X)) → IsErrAnd r (λ x. x ≡ e) → IsDecidedTo {A = A} (Err e) d
    → Resolves s s r (order (decided d >>=? k))
stops_decision_to {A = A} d k e r is h =
    by_plan (order-decided d k) (stops_decided_to {A = A} d (λ a. order (k a)) e r is h)

-- A row that ends the order by a plan.
pub ends_row : {A R X : Type 0} {old new : Asking} {r : Result (Result R X) ReadError} {p : Plan (Result R X)}
    (k : A → Row R R X) → Asks old new r p → Asks old new r (order (ends_by p >>=? k))
ends_row {p = p} k h = by_plan (order-ends_by p k) h

-- The last row.
pub last_row : {R X : Type 0} {old new : Asking} {r : Result (Result R X) ReadError} {p : Plan (Result R X)}
    → Asks old new r p → Asks old new r (order (refuses_by p))
last_row {p = p} h = by_plan (order-last p) h

-- After a row that goes on, where a pattern tells which answer it was.
pub after_row_as : {A R X : Type 0} {old mid new : Asking} {a b : A} {r : Result (Result R X) ReadError}
    {p : Plan (Result A X)} (k : A → Row R R X) → Asks old mid (Ok (Ok a)) p → a ≡ b → Asks mid new r (order (k b))
    → Asks old new r (order (refuses_by p >>=? k))
after_row_as {A = A} {mid = mid} {new = new} {r = r} k first is rest =
    let P : A → Type 0 = λ x. Asks mid new r (order (k x)) in after_row k first (subst P (sym is) rest)

-- A row that asks nothing and goes on.
pub goes_on_row : {A R X : Type 0} {old new : Asking} {r : Result (Result R X) ReadError} (a : A) (k : A → Row R R X)
    → Asks old new r (order (k a)) → Asks old new r (order (Done (Ok a) >>=? k))
goes_on_row a k h = by_plan (order-goes_on a k) h

-- A row that asks nothing and ends the order.
pub order-end : {A R X : Type 0} (e : Result R X) (k : A → Row R R X) → order (Done (Err e) >>=? k) ≡ Done e
unfolding order ◌>>=◌
order-end e k = refl

pub end_row : {A R X : Type 0} {s : Asking} {e : Result R X} (k : A → Row R R X)
    → Asks s s (Ok e) (order (Done (Err e) >>=? k))
end_row {e = e} k = by_plan (order-end e k) (asks_done refl)

-- A row that is a plan and the row of its answer.
pub row_then : {A B R X : Type 0} {old mid new : Asking} {a b : A} {r : Result (Result R X) ReadError} {p : Plan A}
    (f : A → Row B R X) (k : B → Row R R X) → Asks old mid (Ok a) p → a ≡ b → Asks mid new r (order (f b >>=? k))
    → Asks old new r (order ((p >>= f) >>=? k))
row_then {p = p} f k first is rest = by_plan (order-then p f k) (asks_as (λ a. order (f a >>=? k)) first is rest)

-- Its exit where the tree fails, or out of memory.
pub row_fails : {A B R X : Type 0} {old new : Asking} {e : ReadError} {p : Plan A} (f : A → Row B R X)
    (k : B → Row R R X) (r : Result R (ResolveError X)) → IsErrAnd r (λ x. x ≡ resolving.into e)
    → Asks {A = A} old new (Err e) p → Resolves old new r (order ((p >>= f) >>=? k))
row_fails {p = p} f k r is h = by_plan (order-then p f k) (asks_fails_in resolving (λ a. order (f a >>=? k)) r is h)
