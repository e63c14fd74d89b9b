-- What a fault of the top call says of the order.
use Rattle.std.proofs.Common.{◌≡◌, ℕ, suc, ◌+◌, List, [], length, Option, IfSome, Result, Ok, Err, IsErrAnd, sym, ap}
use Rattle.std.proofs.Common.{◌∙◌, subst, arith}
use Rattle.tree_core.specs.declared.question.Question.{Question}
use Rattle.tree_core.specs.declared.question.Reply.{Reply}
use Rattle.tree_core.specs.declared.tree.ReadError.{ReadError}
use Rattle.tree_core.specs.declared.tree.ReadError.TheVariants as read
use Rattle.tree_core.specs.Question.{reply_in}
use Rattle.tree_core.specs.Tree.{Files, recorded, put_times}
use Rattle.tree_core.specs.Plan.{Plan, asked}
use Rattle.tree_core.specs.Asks.{Asking, BrokeOff, Refused, Answers, HasPut, Asks, AgreeWith}
use Rattle.resolve_stack.specs.declared.import.ImportError.{ImportError}
use Rattle.resolve_stack.specs.declared.import.ImportError.TheVariants.{TreeFault, NoMemory}
use Rattle.resolve_stack.specs.ImportFault.{import_error, EndsInFault, EndsStarved}

-- the tree's error was a fault, where the top call's is
pub is_fault : {A : Type 0} (e : ReadError) (R : Result A ImportError) → IsErrAnd R (λ x. x ≡ import_error e) →
    R ≡ Err TreeFault → {B : Type 0} → let failed : Result B ReadError = Err e in failed ≡ Err read.Fault
is_fault e (Ok _) from is = cc
is_fault read.Fault (Err x) from is = cc
is_fault read.NoMemory (Err x) from is = cc

-- the tree had no memory, where the top call has none
pub is_starved : {A : Type 0} (e : ReadError) (R : Result A ImportError) → IsErrAnd R (λ x. x ≡ import_error e) →
    R ≡ Err NoMemory → {B : Type 0} → let failed : Result B ReadError = Err e in failed ≡ Err read.NoMemory
is_starved e (Ok _) from is = cc
is_starved read.Fault (Err x) from is = cc
is_starved read.NoMemory (Err x) from is = cc

-- where the trail was empty, what is new in it is the whole
whole_trail : (t : Files) (old new : List (Question × Reply)) (put : List Question) → old ≡ [] →
    new ≡ recorded t old put → new ≡ recorded t [] put
whole_trail t old new put empty is = is ∙ ap (λ before. recorded t before put) empty

grown_by : (t : Files) (old new : List (Question × Reply)) (put : List Question) (k : ℕ) → old ≡ [] →
    new ≡ recorded t old put → length new ≡ length old + k → length (recorded t [] put) ≡ k
grown_by t old new put k empty is grown =
    let same = ap length (whole_trail t old new put empty is) in
    let none = ap length empty in
    omega (arith, same, none, grown)

-- Where a fault of a whole call stands.
pub ends_in_fault : {A : Type 0} {old new : Asking} {plan : Plan A} {now : ℕ} {told : Option Question}
    (r : Result A ReadError) → old.trail ≡ [] → AgreeWith old.tree.stands_for new.trail → Asks old new r plan →
    r ≡ Err read.Fault → new.tree.questions ≡ now → new.tree.told ≡ told →
    EndsInFault old.tree.stands_for old.tree.questions now told plan
ends_in_fault {A = A} {old = old} {new = new} {plan = plan} {now = now} {told = told} r empty agree h fault now_is
    told_is = record {
      on = λ t stands.
          let f : Refused t old.trail new.trail (asked t plan) new.tree.told = let P : Result A ReadError → Type 0 =
          λ x. Answers t old new x plan in subst P fault (h.answers t (agree t stands)) in
          let put : HasPut {A = A} old new (Err read.Fault) = let P : Result A ReadError → Type 0 =
          λ x. HasPut old new x in subst P fault h.put in
          let lower = put.fact.enough in
          let upper = put.fact.few in
          let grown = grown_by t old.trail new.trail f.put put.by empty f.trail put.grown in
          let times : put.fact.times ≡ suc (length (recorded t [] f.put)) = omega (arith, lower, upper, grown) in
          record {
            put = f.put;
            next = f.next;
            left = f.left;
            in_order = f.in_order;
            lacked = ap (λ steps. reply_in steps f.next) (sym (whole_trail t old.trail new.trail f.put empty f.trail))
                ∙ f.lacked;
            counted = sym now_is ∙ put.fact.counted ∙ ap (λ n. put_times n old.tree.questions) times;
            told_is = let P : Option Question → Type 0 = λ o. IfSome o (λ q. q ≡ f.next) in subst P told_is f.told;
          };
    }

-- Where want of memory ended a whole call.
pub ends_starved : {A : Type 0} {old new : Asking} {plan : Plan A} {now : ℕ} (r : Result A ReadError) →
    old.trail ≡ [] → AgreeWith old.tree.stands_for new.trail → Asks old new r plan → r ≡ Err read.NoMemory →
    new.tree.questions ≡ now → EndsStarved old.tree.stands_for old.tree.questions now plan
ends_starved {A = A} {old = old} {new = new} {plan = plan} {now = now} r empty agree h want now_is = record {
  on = λ t stands.
      let f : BrokeOff t old.trail new.trail (asked t plan) = let P : Result A ReadError → Type 0 =
      λ x. Answers t old new x plan in subst P want (h.answers t (agree t stands)) in
      let put : HasPut {A = A} old new (Err read.NoMemory) = let P : Result A ReadError → Type 0 =
      λ x. HasPut old new x in subst P want h.put in
      let lower = put.fact.enough in
      let upper = put.fact.few in
      let grown = grown_by t old.trail new.trail f.put put.by empty f.trail put.grown in
      record {
        put = f.put;
        left = f.left;
        in_order = f.in_order;
        counted = record {
          times = put.fact.times;
          enough = omega (arith, lower, grown);
          few = omega (arith, upper, grown);
          counted = sym now_is ∙ put.fact.counted;
        };
      };
}

-- the top call's error is the one that was raised
pub raised_same : {A : Type 0} (e : ImportError) (R : Result A ImportError) → IsErrAnd R (λ x. x ≡ e) → R ≡ Err e
raised_same e (Ok _) from = elim from [ ]
raised_same e (Err x) from = ap Err from
