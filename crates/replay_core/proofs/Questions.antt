-- What a question to a tree that answers from a trail comes to, at each way out.
use Rattle.std.proofs.Common.{◌≡◌, List, Some, None, Result, Ok, Err, IsErrAnd, refl, sym, ap, ◌∙◌, subst, arith}
use Rattle.tree_core.specs.declared.question.Question.{Question}
use Rattle.tree_core.specs.declared.question.Reply.{Reply}
use Rattle.tree_core.specs.declared.tree.ReadError.{ReadError}
use Rattle.tree_core.specs.declared.tree.ReadError.TheVariants.{Fault, NoMemory}
use Rattle.tree_core.specs.Question.{reply_in}
use Rattle.replay_core.specs.Replay.{Replay, counted, refused, IsRepliedFromTrail}
use Rattle.replay_core.proofs.AgreeingTests.{agrees_with-is}

-- a recorded question is answered
answered : {A : Type 0} (wrap : A → Reply) (q : Question) (r : Replay) (a : A) → reply_in r.trail q ≡ Some (wrap a)
    → IsRepliedFromTrail wrap q r (counted r) (Ok a)
answered wrap q r a known = record {
  put = record {
    replied = λ t stands. sym (agrees_with-is r.trail t stands q (wrap a) known);
    stands = refl;
    cause = refl;
    counted = refl;
    told = λ fault. cc;
  };
  known = known;
  unknown = λ fault. cc;
  left = refl;
}

pub replayed : {A : Type 0} (wrap : A → Reply) (q : Question) {old mid new : Replay} (a : A) → mid ≡ counted old
    → new ≡ mid → reply_in mid.trail q ≡ Some (wrap a) → IsRepliedFromTrail wrap q old new (Ok a)
replayed wrap q {old = old} {mid = mid} {new = new} a count same known =
    let P : Replay → Type 0 = λ r. IsRepliedFromTrail wrap q old r (Ok a) in
    subst P (sym (same ∙ count)) (answered wrap q old a (ap (λ (r : Replay). reply_in r.trail q) (sym count) ∙ known))

-- a question that isn't recorded is refused
refused_one : {A : Type 0} (wrap : A → Reply) (q : Question) (r : Replay) → reply_in r.trail q ≡ None
    → IsRepliedFromTrail {A = A} wrap q r (refused q (counted r)) (Err Fault)
refused_one wrap q r unknown = record {
  put = record {
    replied = tt;
    stands = refl;
    cause = omega arith;
    counted = refl;
    told = λ _. refl;
  };
  known = tt;
  unknown = λ _. unknown;
  left = refl;
}

pub replay_refused : {A : Type 0} (wrap : A → Reply) (q : Question) {old mid new : Replay} (result : Result A ReadError)
    (e : ReadError) → IsErrAnd result (λ x. x ≡ e) → e ≡ Fault → mid ≡ counted old → new ≡ refused q mid
    → reply_in mid.trail q ≡ None → IsRepliedFromTrail wrap q old new result
replay_refused wrap q (Ok _) e is fault count after unknown = elim is [ ]
replay_refused {A = A} wrap q {old = old} {mid = mid} {new = new} (Err x) e is fault count after unknown =
    rw (is, fault)
    (let P : Replay → Type 0 = λ r. IsRepliedFromTrail {A = A} wrap q old r (Err Fault) in
    subst P (sym (after ∙ ap (refused q) count)) (refused_one wrap q old
    (ap (λ (r : Replay). reply_in r.trail q) (sym count) ∙ unknown)))

-- out of memory, the question is counted and nothing else changes
starved_one : {A : Type 0} (wrap : A → Reply) (q : Question) (r : Replay)
    → IsRepliedFromTrail {A = A} wrap q r (counted r) (Err NoMemory)
starved_one wrap q r = record {
  put = record {
    replied = tt;
    stands = refl;
    cause = refl;
    counted = refl;
    told = λ fault. cc;
  };
  known = tt;
  unknown = λ fault. cc;
  left = refl;
}

pub replay_starved : {A : Type 0} (wrap : A → Reply) (q : Question) {old new : Replay} (result : Result A ReadError)
    → IsErrAnd result (λ e. e ≡ NoMemory) → new ≡ counted old → IsRepliedFromTrail wrap q old new result
replay_starved wrap q (Ok _) is count = elim is [ ]
replay_starved {A = A} wrap q {old = old} {new = new} (Err e) is count =
    rw is
    (let P : Replay → Type 0 = λ r. IsRepliedFromTrail {A = A} wrap q old r (Err NoMemory) in
    subst P (sym count) (starved_one wrap q old))

-- the reply that is recorded for a question, by what both are
pub known_as : (trail : List (Question × Reply)) (q p : Question) (r x : Reply) → reply_in trail q ≡ Some r → q ≡ p
    → r ≡ x → reply_in trail p ≡ Some x
known_as trail q p r x known same is = ap (λ q. reply_in trail q) (sym same) ∙ known ∙ ap Some is
