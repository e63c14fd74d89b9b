-- Calls by the checks' plans.
use Rattle.std.proofs.Common.{◌≡◌, ℕ, Bool, true, false, cond, List, Option, Some, Result, Ok, Err, Bor, IsErrAnd, sym}
use Rattle.tree_core.specs.declared.tree.ReadError.{ReadError}
use Rattle.tree_core.specs.Plan.{Plan, Done}
use Rattle.tree_core.specs.Asks.{Asking, Asks, refused}
use Rattle.yarn_lock_parser.specs.Entry.{Entry}
use Rattle.yarn_lock_parser.specs.Lock.{Lock}
use Rattle.pnp_core.specs.declared.manifest.PackageLocator.{PackageLocator}
use Rattle.pnp_core.specs.Manifest.{Contents}
use Rattle.sugar_path.specs.Path.{Path}
use Rattle.npm_req.specs.Requirement.{Requirement}
use Rattle.lock_checks.specs.declared.fault.EdgeFault.{EdgeFault}
use Rattle.lock_checks.specs.Checks.{entry_check, lock_check, range_check}
use Rattle.lock_checks.specs.Borrowed.{borrowed, borrowed_if_any}
use Rattle.lock_checks.specs.Naming.{first_naming}
use Rattle.lock_checks.specs.Range.{range_in_place}
use Rattle.lock_checks.specs.Reference.{is_npm, is_workspace}

-- the plan that a test chooses
pub asks_where : {A : Type 0} {old new : Asking} {r : Result A ReadError} (test : Bool) (p q : Plan A) → test ≡ true
    → Asks old new r p → Asks old new r (cond test p q)
asks_where test p q is h = rw is h

pub asks_else : {A : Type 0} {old new : Asking} {r : Result A ReadError} (test : Bool) (p q : Plan A) → test ≡ false
    → Asks old new r q → Asks old new r (cond test p q)
asks_else test p q is h = rw is h

-- the check by the entry that is found
pub asks_entry : {old new : Asking} {r : Result (Result (Unit {0}) EdgeFault) ReadError} (manifest : Contents)
    (owner : PackageLocator) (name : List ℕ) (bound : PackageLocator) (known found : Option Entry) → known ≡ found
    → Asks old new r (entry_check manifest owner name bound known)
    → Asks old new r (entry_check manifest owner name bound found)
asks_entry manifest owner name bound known found is h = rw (← is) h

-- the check of a package that isn't of the workspace
pub asks_locked : {old new : Asking} {r : Result (Result (Unit {0}) EdgeFault) ReadError} (lock : Lock)
    (manifest : Contents) (owner : PackageLocator) (name : List ℕ) (bound : PackageLocator) (known : Option Entry)
    → is_workspace bound.reference ≡ false → known ≡ first_naming lock bound
    → Asks old new r (entry_check manifest owner name bound known)
    → Asks old new r (lock_check lock manifest owner name bound)
asks_locked lock manifest owner name bound known other is h =
    asks_else (is_workspace bound.reference) (Done (Ok tt)) (entry_check manifest owner name bound
    (first_naming lock bound)) other
    (asks_entry manifest owner name bound known (first_naming lock bound) is h)

-- an entry of a package that isn't npm's
pub asks_foreign : {old new : Asking} {r : Result (Result (Unit {0}) EdgeFault) ReadError} (manifest : Contents)
    (owner : PackageLocator) (name : List ℕ) (bound : PackageLocator) (entry : Entry) → is_npm bound.reference ≡ false
    → Asks old new r (Done (Ok tt)) → Asks old new r (entry_check manifest owner name bound (Some entry))
asks_foreign manifest owner name bound entry foreign h =
    asks_else (is_npm bound.reference) (range_check manifest owner name entry) (Done (Ok tt)) foreign h

-- an entry of npm's
pub asks_npm : {old new : Asking} {r : Result (Result (Unit {0}) EdgeFault) ReadError} (manifest : Contents)
    (owner : PackageLocator) (name : List ℕ) (bound : PackageLocator) (entry : Entry) → is_npm bound.reference ≡ true
    → Asks old new r (range_check manifest owner name entry)
    → Asks old new r (entry_check manifest owner name bound (Some entry))
asks_npm manifest owner name bound entry npm h =
    asks_where (is_npm bound.reference) (range_check manifest owner name entry) (Done (Ok tt)) npm h

-- the range in the place that is known
pub asks_place : {old new : Asking} {r : Result (Result (Option Requirement) EdgeFault) ReadError} (name : List ℕ)
    (known place : Option Path) → known ≡ place → Asks old new r (range_in_place known name)
    → Asks old new r (range_in_place place name)
asks_place name known place is h = rw (← is) h

-- an error borrows nothing
pub borrowed_err : {A E : Type 0} (r : Result (Bor A) E) (e : E) → IsErrAnd r (λ x. x ≡ e)
    → IsErrAnd (borrowed r) (λ x. x ≡ e)
borrowed_err (Ok a) e h = elim h [ ]
borrowed_err (Err x) e h = h

pub borrowed_if_any_err : {A E : Type 0} (r : Result (Option (Bor A)) E) (e : E) → IsErrAnd r (λ x. x ≡ e)
    → IsErrAnd (borrowed_if_any r) (λ x. x ≡ e)
borrowed_if_any_err (Ok found) e h = elim h [ ]
borrowed_if_any_err (Err x) e h = h

-- a plan whose refusal is told
pub asks_refused : {A X : Type 0} {old new : Asking} {p : Plan (Result A X)} (known : Result X ReadError) (refusal : X)
    → Ok refusal ≡ known → Asks old new (refused known) p → Asks old new (Ok (Err refusal)) p
asks_refused known refusal is h = rw (sym is) at h

-- a plan that ended by the tree's error
pub asks_refused_not : {A X : Type 0} {old new : Asking} {p : Plan (Result A X)} (known : Result X ReadError)
    (error : ReadError) → Err error ≡ known → Asks old new (refused known) p
    → Asks {A = Result A X} old new (Err error) p
asks_refused_not known error is h = rw (sym is) at h
