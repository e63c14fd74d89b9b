-- A binding that passes the checks is locked.
use Rattle.std.proofs.Common.{◌≡◌, ℕ, Bool, true, false, cond, List, Option, Some, None, Result, Ok, Err, refl}
use Rattle.tree_core.specs.Tree.{Files}
use Rattle.tree_core.specs.Told.{Told, unasked, where_ok, ◌>>=?◌}
use Rattle.npm_req.specs.Requirement.{Requirement}
use Rattle.yarn_lock_parser.specs.Entry.{Entry}
use Rattle.yarn_lock_parser.specs.Lock.{Lock}
use Rattle.pnp_core.specs.declared.manifest.PackageLocator.{PackageLocator}
use Rattle.pnp_core.specs.Manifest.{Contents}
use Rattle.lock_checks.specs.declared.fault.EdgeFault.{EdgeFault}
use Rattle.lock_checks.specs.declared.fault.EdgeFault.TheVariants.{OutOfRange}
use Rattle.lock_checks.specs.Checks.{registered}
use Rattle.lock_checks.specs.Locked.{IsLocked, PassesAsLocked}
use Rattle.lock_checks.specs.Naming.{first_naming}
use Rattle.lock_checks.specs.OnTree.{check_on, entry_check_on, range_check_on}
use Rattle.lock_checks.specs.Range.{is_within, within}

-- what is checked behind another result passes where both do
second_passes : {A B X : Type 0} {b : B} (first : Result A X) (check : Told (Result (Unit {0}) X)) (f : A → B)
    → (unasked first >>=? λ a. check >>=? λ passed. unasked (Ok (f a))).result ≡ Ok b → check.result ≡ Ok tt
second_passes {B = B} {X = X} {b = b} (Ok a) check f h = by_result check.result h
  where
    by_result : (r : Result (Unit {0}) X) → (where_ok {B = B} (λ passed. unasked (Ok (f a))) r).result ≡ Ok b
        → r ≡ Ok tt
    by_result (Ok tt) h = refl
    by_result (Err x) h = cc
second_passes (Err x) check f h = cc

abbrev held_by : Bool → Requirement → List ℕ → Result (Unit {0}) EdgeFault
held_by b range version = cond b (Ok tt) (Err (OutOfRange range.text version))

passes_within : (range : Requirement) (version : List ℕ) → within (Some range) version ≡ Ok tt
    → is_within range version ≡ true
passes_within range version = by_test (is_within range version)
  where
    by_test : (b : Bool) → held_by b range version ≡ Ok tt → b ≡ true
    by_test true h = refl
    by_test false h = cc

by_entry : (t : Files) (lock : Lock) (manifest : Contents) (owner : PackageLocator) (name : List ℕ)
    (bound : PackageLocator) (entry : Option Entry) → first_naming lock bound ≡ entry
    → (entry_check_on t manifest owner name bound entry).result ≡ Ok tt → IsLocked t lock manifest owner name bound
by_entry t lock manifest owner name bound None is h = cc
by_entry t lock manifest owner name bound (Some entry) is h = record {
  entry = entry;
  first = is;
  within = λ range npm declared.
      let checked : (range_check_on t manifest owner name entry).result ≡ Ok tt = rw npm at h in
      let held : within (Some range) entry.version ≡ Ok tt = rw declared at checked in
      passes_within range entry.version held;
}

pub passes_as_locked : PassesAsLocked
passes_as_locked t lock manifest owner name bound location passes other =
    let checked : (check_on t (Some lock) manifest owner name bound).result ≡ Ok tt =
    second_passes (registered manifest bound) (check_on t (Some lock) manifest owner name bound) (λ (l : List ℕ). l)
    passes in
    by_entry t lock manifest owner name bound (first_naming lock bound) refl (rw other at checked)
