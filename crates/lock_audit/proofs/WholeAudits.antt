-- What a whole audit says, from what it asked.
use Rattle.std.proofs.Common.{
  ◌≡◌,
  ◌<◌,
  ◌^◌,
  ℕ,
  List,
  [],
  length,
  Option,
  Some,
  None,
  Result,
  Ok,
  Err,
  IsErrAnd,
  IsTrue,
  refl,
  sym,
  ap,
  ◌∙◌,
  subst,
  arith,
}
use Rattle.std.specs.Prelude.{IfOk}
use Rattle.sugar_path.specs.Path.{Path}
use Rattle.tree_core.specs.Asks.{Asking, Asks, AgreeWith, seen}
use Rattle.tree_core.specs.Plan.{Plan, answer, asked}
use Rattle.tree_core.specs.Resolving.{resolving}
use Rattle.tree_core.specs.Tree.{Files, TreeState, put_times, recorded}
use Rattle.tree_core.specs.declared.resolve_error.ResolveError.{ResolveError}
use Rattle.tree_core.specs.declared.resolve_error.ResolveError.TheVariants as loading
use Rattle.tree_core.specs.declared.tree.ReadError.{ReadError}
use Rattle.tree_core.proofs.Asking.{answer-done, asked-done, put_all, settles}
use Rattle.pnp_core.specs.declared.error.HydrationCause.{HydrationCause}
use Rattle.resolve_stack.specs.OrderParts.{raised_result}
use Rattle.resolve_stack.proofs.Faults.{ends_in_fault, ends_starved}
use Rattle.resolve_stack.proofs.Raising.{asks_raised_result}
use Rattle.yarn_lock_parser.specs.Lock.{Lock}
use Rattle.lock_audit.specs.declared.audited.Audit.{Audit}
use Rattle.lock_audit.specs.declared.error.AuditError.{AuditError}
use Rattle.lock_audit.specs.declared.error.AuditError.TheVariants.{NoLock}
use Rattle.lock_audit.specs.declared.edges.RowEdge.{RowEdge}
use Rattle.lock_audit.specs.Audit.{audit, audit_by, count_of, NoManifest, Refusal}
use Rattle.lock_audit.specs.Audit as no_lock
use Rattle.lock_audit.specs.Audits.{Audits}
use Rattle.lock_audit.specs.Refusal.{auditing, of_loading}

-- an error of the reading of a manifest is the audit's
pub seen_loading : (e : ResolveError HydrationCause) (R : Result Audit AuditError) → IsErrAnd R (λ x. x ≡ of_loading e)
    → seen auditing R ≡ raised_result NoManifest (seen {A = Audit} resolving (Err e))
seen_loading e (Ok a) from = elim from [ ]
seen_loading (loading.Refused cause) (Err x) from = rw from refl
seen_loading loading.TreeFault (Err x) from = rw from refl
seen_loading loading.NoMemory (Err x) from = rw from refl

module _ {old new : Asking} {plan : Plan (Result Audit Refusal)} (empty : old.trail ≡ [])
    (agree : AgreeWith old.tree.stands_for new.trail) where
  answers_on : (s : Result (Result Audit Refusal) ReadError) → Asks old new s plan
      → IfOk s (λ told. (t : Files) → IsTrue (old.tree.stands_for t) → answer t plan ≡ told)
  answers_on (Ok told) h = λ t stands. sym ((settles empty h).verdict t (agree t stands))
  answers_on (Err e) h = tt

  put_on : (s : Result (Result Audit Refusal) ReadError) → Asks old new s plan
      → IfOk s (λ told. (t : Files) → IsTrue (old.tree.stands_for t)
      → new.tree.questions ≡ put_times (length (recorded t [] (asked t plan))) old.tree.questions)
  put_on (Ok told) h = λ t stands.
      put_all empty h ∙ ap (λ trail. put_times (length trail) old.tree.questions)
      ((settles empty h).trail t (agree t stands))
  put_on (Err e) h = tt

-- a whole audit by a lock
pub audits_by : {old new : Asking} (lock : Lock) (file : Path) (r : Result (Result Audit HydrationCause) ReadError)
    (R : Result Audit AuditError) (before after : TreeState)
    → old.trail ≡ [] → AgreeWith old.tree.stands_for new.trail → Asks old new r (audit_by lock file)
    → seen auditing R ≡ raised_result NoManifest r
    → old.tree ≡ before → new.tree ≡ after
    → Audits (Some lock) file before after R
audits_by {old = old} {new = new} lock file r R before after empty agree h is was now =
    let P : Result (Result Audit Refusal) ReadError → Type 0 = λ s. Asks old new s (audit (Some lock) file) in
    let asks : Asks old new (seen auditing R) (audit (Some lock) file) =
    subst P (sym is) (asks_raised_result NoManifest r h) in
    let here : Audits (Some lock) file old.tree new.tree R = record {
      answers = answers_on empty agree (seen auditing R) asks;
      put = put_on empty agree (seen auditing R) asks;
      stands = asks.stands;
      cause = asks.cause;
      fails = λ fault. ends_in_fault (seen auditing R) empty agree asks (ap (seen auditing) fault) refl refl;
      starves = λ want. ends_starved (seen auditing R) empty agree asks (ap (seen auditing) want) refl;
    } in
    let Q : TreeState → Type 0 = λ s. Audits (Some lock) file s new.tree R in
    let S : TreeState → Type 0 = λ s. Audits (Some lock) file before s R in
    subst S now (subst Q was here)

-- without a lock nothing is asked
pub audits_none : (lock : Option Lock) (file : Path) (s : TreeState) → lock ≡ None → Audits lock file s s (Err NoLock)
audits_none lock file s none = rw none record {
  answers = λ t stands. answer-done t (Err no_lock.NoLock);
  put = λ t stands. let told : Result Audit Refusal = Err no_lock.NoLock in rw (asked-done t told) refl;
  stands = refl;
  cause = refl;
  fails = λ fault. cc;
  starves = λ want. cc;
}

-- the number of edges that are listed
pub count_is : (n : ℕ) (edges : List RowEdge) → n ≡ length edges → n < 2 ^ 64 → n ≡ count_of edges
count_is n edges is fits = omega (arith, is, fits)
