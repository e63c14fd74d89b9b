-- Searches that answer or refuse: how their errors are read, and what a step without questions comes to.
use Rattle.std.specs.Prelude.{◌≡◌, Result, Ok, Err, refl}
use Rattle.std.specs.Borrow.{Bor}
use Rattle.tree_core.specs.declared.tree.ReadError.{ReadError}
use Rattle.tree_core.specs.declared.tree.ReadError.TheVariants.{Fault, NoMemory}
use Rattle.tree_core.specs.declared.resolve_error.ResolveError.{ResolveError}
use Rattle.tree_core.specs.declared.resolve_error.ResolveError.TheVariants as error
use Rattle.tree_core.specs.Plan.{Plan, ◌>>=?◌}
use Rattle.tree_core.specs.Asks.{Asking, Asks, Layer, seen}

abbrev pub kind : {X : Type 0} → ResolveError X → Result X ReadError
kind (error.Refused x) = Ok x
kind error.TreeFault = Err Fault
kind error.NoMemory = Err NoMemory

abbrev pub into : {X : Type 0} → ReadError → ResolveError X
into Fault = error.TreeFault
into NoMemory = error.NoMemory

abbrev pub carries : {X : Type 0} → (e : ReadError) → kind {X = X} (into e) ≡ Err e
carries Fault = refl
carries NoMemory = refl

-- a refusal is an answer of the order; the other two errors come from the tree
abbrev pub resolving : {X : Type 0} → Layer (ResolveError X) X
resolving = record { kind = kind; into = into; carries = carries }

-- an error whose refusal was made into another one, which stands in this relation to it; each other error stays
abbrev pub IsMapped : {X Y : Type 0} → (X → Y → Type 0) → ResolveError X → ResolveError Y → Type 0
IsMapped R (error.Refused x) (error.Refused y) = R x y
IsMapped R error.TreeFault error.TreeFault = Unit {0}
IsMapped R error.NoMemory error.NoMemory = Unit {0}
IsMapped R _ _ = ⊥

-- A search by a plan that answers or refuses.
abbrev pub Resolves :
    {A X : Type 0} → Asking → Asking → Result A (ResolveError X) → Plan (Result A X) → Type 0
Resolves old new result plan = Asks old new (seen resolving result) plan

-- A step that puts no question comes to this answer or refusal, unless it is out of memory.
abbrev pub IsDecided : {A X : Type 0} → Result A (ResolveError X) → Result A X → Type 0
IsDecided (Ok a) r = r ≡ Ok a
IsDecided (Err (error.Refused x)) r = r ≡ Err x
IsDecided (Err error.TreeFault) r = ⊥
IsDecided (Err error.NoMemory) r = Unit {0}

-- The `>>=` of a `do` over plans that may refuse: one step, and then what its answer gives; a refusal ends the order.
infixl 10 ◌>>=◌
abbrev pub ◌>>=◌ :
    {A B X : Type 0} → Plan (Result A X) → (A → Plan (Result B X)) → Plan (Result B X)
p >>= then = p >>=? then

-- A step that puts no question and lends its answer comes to this answer or refusal, unless it is out of memory.
abbrev pub IsDecidedTo : {A X : Type 0} → Result (Bor A) (ResolveError X) → Result A X → Type 0
IsDecidedTo (Ok a) r = r ≡ Ok a.now
IsDecidedTo (Err (error.Refused x)) r = r ≡ Err x
IsDecidedTo (Err error.TreeFault) r = ⊥
IsDecidedTo (Err error.NoMemory) r = Unit {0}
