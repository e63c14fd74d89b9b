-- What a question to a tree in memory comes to, from its exact reply.
use Rattle.std.proofs.Common.{
  ◌≡◌,
  ◌↔◌,
  ℕ,
  arith,
  IsTrue,
  Result,
  Ok,
  Err,
  IfOk,
  IfErr,
  IsErrAnd,
  cond,
  true,
  false,
  Bool,
  refl,
  sym,
  ap,
  ◌∙◌,
  subst,
}
use Rattle.tree_core.specs.declared.question.Question.{Question}
use Rattle.tree_core.specs.declared.question.Reply.{Reply}
use Rattle.tree_core.specs.declared.tree.ReadError.{ReadError}
use Rattle.tree_core.specs.declared.tree.ReadError.TheVariants.{Fault, NoMemory}
use Rattle.tree_core.specs.Tree.{Files, HasCause, reply, one_more}
use Rattle.tree_core.specs.Memory.{
  Memory,
  Failing,
  same_files,
  IsReplied,
  IsRefusedByNumber,
  refuses_next,
  after_question,
}
use Rattle.tree_core.proofs.Entries.{same_files-is}

replied_on : {A : Type 0} (wrap : A → Reply) (q : Question) (files : Files) (result : Result A ReadError)
    → IfOk result (λ a. wrap a ≡ reply files q)
    → IfOk result (λ a. (t : Files) → IsTrue (same_files files t) → reply t q ≡ wrap a)
replied_on wrap q files (Ok a) exact =
    λ t stands. ap (λ (f : Files). reply f q) (sym (same_files-is files t stands)) ∙ sym exact
replied_on wrap q files (Err e) exact = tt

no_fault : {A : Type 0} (result : Result A ReadError) (n : ℕ) → IfErr result (λ e. e ≡ NoMemory) → HasCause n n result
no_fault (Ok a) n memory = refl
no_fault (Err Fault) n memory = cc
no_fault (Err NoMemory) n memory = refl

-- A question to a tree in memory, from the exact reply.
pub replied : {A : Type 0} (wrap : A → Reply) (q : Question) (old new : Memory) (result : Result A ReadError)
    → IfOk result (λ a. wrap a ≡ reply old.files q) → IfErr result (λ e. e ≡ NoMemory)
    → new ≡ record old { questions = one_more old.questions } → IsReplied wrap q old new result
replied wrap q old new result exact memory same = record {
  put = record {
    replied = replied_on wrap q old.files result exact;
    stands = ap (λ (m : Memory). same_files m.files) same;
    cause = no_fault result 0 memory;
    counted = ap (λ (m : Memory). m.questions) same;
    told = λ _. tt;
  };
  exact = exact;
  memory = memory;
  same = same;
}

caused : {A : Type 0} (n : ℕ) (b : Bool) (result : Result A ReadError) → ((result ≡ Err Fault) ↔ IsTrue b)
    → HasCause n (cond b (one_more n) n) result
caused n true (Ok a) h = let no = h.1 refl in cc
caused n false (Ok a) h = refl
caused n true (Err Fault) h = omega arith
caused n false (Err Fault) h = let no = h.0 refl in cc
caused n true (Err NoMemory) h = let no = h.1 refl in cc
caused n false (Err NoMemory) h = refl

refused_by_number : {A : Type 0} (wrap : A → Reply) (q : Question) (old new : Failing) (result : Result A ReadError)
    → IfOk result (λ a. wrap a ≡ reply old.memory.files q) → ((result ≡ Err Fault) ↔ IsTrue (refuses_next old))
    → new ≡ after_question old → IsRefusedByNumber wrap q old new result
refused_by_number {A = A} wrap q old new result exact refused after = record {
  put = record {
    replied = replied_on wrap q old.memory.files result exact;
    stands = ap (λ (m : Failing). same_files m.memory.files) after;
    cause = let P : ℕ → Type 0 = λ n. HasCause old.faults n result in
        subst P (ap (λ (m : Failing). m.faults) (sym after)) (caused old.faults (refuses_next old) result refused);
    counted = ap (λ (m : Failing). m.memory.questions) after;
    told = λ _. tt;
  };
  exact = exact;
  refused = refused;
  after = after;
}

-- A question with one of the numbers.
pub refused_one : {A : Type 0} (wrap : A → Reply) (q : Question) {old new : Failing} {next : Bool}
    → next ≡ refuses_next old → next ≡ true → new ≡ after_question old → IsRefusedByNumber wrap q old new (Err Fault)
refused_one wrap q {old = old} {new = new} test is after =
    refused_by_number wrap q old new (Err Fault) tt (λ _. sym test ∙ is, λ _. refl) after

-- A question with another number, which is answered.
pub answered_one : {A : Type 0} (wrap : A → Reply) (q : Question) {old new : Failing} {next : Bool} (a : A)
    → next ≡ refuses_next old → next ≡ false → wrap a ≡ reply old.memory.files q → new ≡ after_question old
    → IsRefusedByNumber wrap q old new (Ok a)
answered_one wrap q {old = old} {new = new} a test is exact after =
    let other : refuses_next old ≡ false = sym test ∙ is in
    refused_by_number wrap q old new (Ok a) exact (λ no. cc, λ yes. cc) after

-- A question with another number, out of memory.
pub starved_one : {A : Type 0} (wrap : A → Reply) (q : Question) {old new : Failing} {next : Bool}
    (r : Result A ReadError) → IsErrAnd r (λ e. e ≡ NoMemory) → next ≡ refuses_next old → next ≡ false
    → new ≡ after_question old → IsRefusedByNumber wrap q old new r
starved_one wrap q (Ok _) want test is after = elim want [ ]
starved_one wrap q {old = old} {new = new} (Err e) want test is after =
    let other : refuses_next old ≡ false = sym test ∙ is in
    rw want (refused_by_number wrap q old new (Err NoMemory) tt (λ no. cc, λ yes. cc) after)
