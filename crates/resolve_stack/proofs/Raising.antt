-- The orders below as parts of the order.
use Rattle.std.proofs.Common.{◌≡◌, ℕ, Bool, true, false, List, Option, Some, None, Result, Ok, Err, refl, ap}
use Rattle.std.specs.Prelude.{if◌then◌else◌}
use Rattle.tree_core.specs.declared.tree.ReadError.{ReadError}
use Rattle.tree_core.specs.Plan.{Plan, Done, ◌>>=?◌}
use Rattle.tree_core.specs.declared.resolve_error.ResolveError.{ResolveError}
use Rattle.tree_core.specs.declared.resolve_error.ResolveError.TheVariants as error
use Rattle.tree_core.specs.Asks.{Asking, Asks, raised, widened, seen}
use Rattle.tree_core.specs.Resolving.{resolving, IsMapped}
use Rattle.tree_core.specs.Rows.{Row, order, ends_by}
use Rattle.tree_core.proofs.Asking.{asks_then, asks_done, asks_fails}
use Rattle.swc_loader.specs.declared.resolution.FileName.{FileName}
use Rattle.swc_loader.specs.declared.resolution.Resolution.{Resolution}
use Rattle.swc_loader.specs.NodeRows.{search}
use Rattle.resolver_core.specs.declared.refusal.TsRefusal.{TsRefusal}
use Rattle.resolver_core.specs.declared.refusal.TsRefusal.TheVariants.{Inner}
use Rattle.resolver_core.specs.Mapping.{Order, Mapping, mapping_order}
use Rattle.resolve_stack.specs.declared.verdict.JoinRefusal.{JoinRefusal}
use Rattle.resolve_stack.specs.Settings.{ProjectSettings}
use Rattle.resolve_stack.specs.Request.{Request}
use Rattle.resolve_stack.specs.Rows.{of_node, or_node_rows, node_rows_of}
use Rattle.resolve_stack.specs.OrderParts.{raised_result}
use Rattle.resolve_stack.specs.Verdict.{behind_mapping}
use Rattle.tree_core.proofs.RowCalls.{goes_on_row, ends_row}

pub asks_raised_result : {A X Y : Type 0} {old new : Asking} {p : Plan (Result A X)} (wide : X → Y)
    (r : Result (Result A X) ReadError) → Asks old new r p → Asks old new (raised_result wide r) (raised wide p)
asks_raised_result wide (Ok r) h = asks_then (λ x. Done (widened wide x)) h (asks_done refl)
asks_raised_result wide (Err e) h = asks_fails (λ x. Done (widened wide x)) (Err e) refl h

-- A request of a project with a mapping goes through it.
pub asks_mapped : {X : Type 0} {old new : Asking} {r : Result (Result Resolution (TsRefusal X)) ReadError}
    (o : Option Mapping) (m : Mapping) (inner : Order X) (base : FileName) (s : List ℕ) → o ≡ Some m →
    Asks old new r (mapping_order inner m base s) → Asks old new r (behind_mapping o inner base s)
asks_mapped o m inner base s is h = rw is h

-- Without one it is the order's behind it.
pub asks_unmapped : {X : Type 0} {old new : Asking} {r : Result (Result Resolution (TsRefusal X)) ReadError}
    (o : Option Mapping) (inner : Order X) (base : FileName) (s : List ℕ) → o ≡ None →
    Asks old new r (raised Inner (inner base s)) → Asks old new r (behind_mapping o inner base s)
asks_unmapped o inner base s is h = rw is h

-- A row that goes on where there is something to go on with.
pub some_row : {A : Type 0} {old new : Asking} {a : A} {r : Result (Result Resolution JoinRefusal) ReadError}
    (project : ProjectSettings) (request : Request) (o : Option A) (k : A → Row Resolution Resolution JoinRefusal) →
    o ≡ Some a → Asks old new r (order (k a)) → Asks old new r (order (or_node_rows project request o >>=? k))
some_row {a = a} project request o k is h = rw is (goes_on_row a k h)

-- Else the node rows end the order.
pub none_row : {A : Type 0} {old new : Asking} {r : Result (Result Resolution JoinRefusal) ReadError}
    (project : ProjectSettings) (request : Request) (o : Option A) (k : A → Row Resolution Resolution JoinRefusal) →
    o ≡ None → Asks old new r (node_rows_of project request) →
    Asks old new r (order (or_node_rows project request o >>=? k))
none_row project request o k is h = rw is (ends_row k h)

-- A bare target goes on.
pub bare_row : {old new : Asking} {r : Result (Result Resolution JoinRefusal) ReadError} (project : ProjectSettings)
    (base target : List ℕ) (k : List ℕ → Row Resolution Resolution JoinRefusal) (b : Bool) → b ≡ true →
    Asks old new r (order (k target)) →
    Asks old new r (order ((if b then Done (Ok target) else ends_by
    (raised of_node (search project.node base target))) >>=? k))
bare_row project base target k b is h = rw is (goes_on_row target k h)

-- Any other is searched as the node rows do, and ends the order.
pub searched_row : {old new : Asking} {r : Result (Result Resolution JoinRefusal) ReadError}
    (project : ProjectSettings) (base target : List ℕ) (k : List ℕ → Row Resolution Resolution JoinRefusal) (b : Bool)
    → b ≡ false → Asks old new r (raised of_node (search project.node base target)) →
    Asks old new r (order ((if b then Done (Ok target) else ends_by
    (raised of_node (search project.node base target))) >>=? k))
searched_row project base target k b is h = rw is (ends_row k h)

-- A search's result with its refusal mapped comes to what it came to, with that refusal.
pub mapped_seen : {A X Y : Type 0} (wide : X → Y) (R : X → Y → Type 0) (e : ResolveError X) (f : ResolveError Y) →
    ((x : X) (y : Y) → R x y → y ≡ wide x) → IsMapped R e f
    → seen {A = A} resolving (Err f) ≡ raised_result wide (seen resolving (Err e))
mapped_seen wide R (error.Refused x) (error.Refused y) same h = ap (λ z. Ok (Err z)) (same x y h)
mapped_seen wide R error.TreeFault error.TreeFault same h = refl
mapped_seen wide R error.NoMemory error.NoMemory same h = refl
mapped_seen wide R (error.Refused x) error.TreeFault same h = absurd h
mapped_seen wide R (error.Refused x) error.NoMemory same h = absurd h
mapped_seen wide R error.TreeFault (error.Refused y) same h = absurd h
mapped_seen wide R error.TreeFault error.NoMemory same h = absurd h
mapped_seen wide R error.NoMemory (error.Refused y) same h = absurd h
mapped_seen wide R error.NoMemory error.TreeFault same h = absurd h
