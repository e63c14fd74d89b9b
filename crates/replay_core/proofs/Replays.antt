-- A replay's end, from what a search came to over a tree that answers from the trail.
use Rattle.std.proofs.Common.{
  ◌≡◌,
  Bool,
  true,
  false,
  cond,
  option_map,
  List,
  [],
  ◌∷◌,
  ◌++◌,
  Option,
  Some,
  None,
  is_some,
  is_none,
  IfSome,
  Result,
  Ok,
  Err,
  refl,
  sym,
  ap,
  ◌∙◌,
  subst,
}
use Rattle.std.specs.List.{find}
use Rattle.std.specs.Option.{option_or}
use Rattle.std.proofs.lemmas.List.{append-nil}
use Rattle.std.proofs.lemmas.List.Folds.{find-append}
use Rattle.tree_core.specs.declared.question.Question.{Question}
use Rattle.tree_core.specs.declared.question.Reply.{Reply}
use Rattle.tree_core.specs.declared.tree.ReadError.{ReadError}
use Rattle.tree_core.specs.declared.tree.ReadError.TheVariants as read
use Rattle.tree_core.specs.Question.{question_eq, reply_in}
use Rattle.tree_core.specs.Tree.{Files, reply, Agrees, noted, recorded}
use Rattle.tree_core.specs.Plan.{Plan, asked}
use Rattle.tree_core.specs.Asks.{Asking, Answers, AgreeWith, Settles}
use Rattle.tree_core.proofs.Replies.{question_eq-is, question_eq-refl}
use Rattle.replay_core.proofs.AgreeingTests.{agrees_with-passes}
use Rattle.replay_core.specs.declared.replaying.ReplayError.{ReplayError}
use Rattle.replay_core.specs.declared.replaying.ReplayError.TheVariants.{NotRecorded, NoMemory}
use Rattle.replay_core.specs.Replaying.{first_unrecorded, IsReplayedAnswer, IsMissing, Replays, GivesAgain, IsSearch}
use Rattle.replay_core.specs.ReplayingParts.{questions_of, misses, if_unrecorded, ended, IsUnlessStarved}

-- a question of a trail that another one lacks makes one of the trail's questions the first such one
found_first : (trail before : List (Question × Reply)) (q : Question) → is_some (reply_in before q) ≡ true
    → is_none (reply_in trail q) ≡ true → is_some (first_unrecorded trail (questions_of before)) ≡ true
found_first trail [] q has lacks = cc
found_first trail (s ∷ steps) q has lacks =
    by_test (λ more. found_first trail steps q more lacks) (question_eq s.0 q) refl has
  where
    by_lack : (b : Bool) → (is_some (reply_in steps q) ≡ true
        → is_some (first_unrecorded trail (questions_of steps)) ≡ true) → is_some (reply_in steps q) ≡ true
        → is_some (cond b (Some s.0) (first_unrecorded trail (questions_of steps))) ≡ true
    by_lack true later rest = refl
    by_lack false later rest = later rest

    by_test : (is_some (reply_in steps q) ≡ true → is_some (first_unrecorded trail (questions_of steps)) ≡ true)
        → (b : Bool) → question_eq s.0 q ≡ b → is_some (cond b (Some s.1) (reply_in steps q)) ≡ true
        → is_some (cond (is_none (reply_in trail s.0)) (Some s.0) (first_unrecorded trail (questions_of steps))) ≡ true
    by_test later true same rest = ap (λ b. is_some (cond b (Some s.0) (first_unrecorded trail (questions_of steps))))
        (ap (λ p. is_none (reply_in trail p)) (question_eq-is s.0 q same) ∙ lacks)
    by_test later false same rest = by_lack (is_none (reply_in trail s.0)) later rest

questions-push : (steps : List (Question × Reply)) (q : Question) (r : Reply)
    → questions_of (steps ++ (q, r) ∷ []) ≡ questions_of steps ++ q ∷ []
questions-push [] q r = refl
questions-push (s ∷ steps) q r = ap (λ qs. s.0 ∷ qs) (questions-push steps q r)

or_none : (o : Option Question) → option_or o None ≡ o
or_none None = refl
or_none (Some x) = refl

or_some : (o x y : Option Question) → is_some o ≡ true → option_or o x ≡ option_or o y
or_some None x y h = cc
or_some (Some _) x y h = refl

or_chosen : (o x : Option Question) (b : Bool) (q : Question)
    → option_or (option_or o (cond b (Some q) None)) x ≡ option_or o (cond b (Some q) x)
or_chosen None x true q = refl
or_chosen None x false q = refl
or_chosen (Some p) x b q = refl

-- one question more
first-noted : (t : Files) (trail before : List (Question × Reply)) (q : Question) (rest : Option Question)
    → option_or (first_unrecorded trail (questions_of (noted t before q))) rest ≡ option_or
    (first_unrecorded trail (questions_of before)) (cond (is_none (reply_in trail q)) (Some q) rest)
first-noted t trail before q rest = by_test (is_some (reply_in before q)) refl
  where
    by_lack : (b : Bool) → is_none (reply_in trail q) ≡ b → is_some (reply_in before q) ≡ true
        → option_or (first_unrecorded trail (questions_of before)) rest ≡ option_or
        (first_unrecorded trail (questions_of before)) (cond b (Some q) rest)
    by_lack true lacks has = or_some _ _ _ (found_first trail before q has lacks)
    by_lack false lacks has = refl

    by_test : (b : Bool) → is_some (reply_in before q) ≡ b
        → option_or (first_unrecorded trail (questions_of (cond b before (before ++ (q, reply t q) ∷ [])))) rest ≡
        option_or (first_unrecorded trail (questions_of before)) (cond (is_none (reply_in trail q)) (Some q) rest)
    by_test true has = by_lack (is_none (reply_in trail q)) refl has
    by_test false has =
        ap (λ qs. option_or (first_unrecorded trail qs) rest) (questions-push before q (reply t q))
        ∙ ap (λ o. option_or o rest) (find-append (λ p. is_none (reply_in trail p)) (questions_of before) (q ∷ []))
        ∙ or_chosen (first_unrecorded trail (questions_of before)) rest (is_none (reply_in trail q)) q

-- that a question is put once alone doesn't change which one is the first that a trail lacks
first-recorded : (t : Files) (trail before : List (Question × Reply)) (qs : List Question)
    → first_unrecorded trail (questions_of (recorded t before qs)) ≡ option_or
    (first_unrecorded trail (questions_of before)) (first_unrecorded trail qs)
first-recorded t trail before [] = sym (or_none _)
first-recorded t trail before (q ∷ qs) =
    first-recorded t trail (noted t before q) qs ∙ first-noted t trail before q (first_unrecorded trail qs)

-- the questions that were put, and those that weren't
first-put : (t : Files) (trail now : List (Question × Reply)) (all put left : List Question) → now ≡ recorded t [] put
    → all ≡ put ++ left → first_unrecorded trail all ≡ option_or (first_unrecorded trail (questions_of now))
    (first_unrecorded trail left)
first-put t trail now all put left is in_order =
    ap (first_unrecorded trail) in_order
    ∙ find-append (λ p. is_none (reply_in trail p)) put left
    ∙ ap (λ o. option_or o (first_unrecorded trail left)) (sym
    (ap (λ steps. first_unrecorded trail (questions_of steps)) is ∙ first-recorded t trail [] put))

-- the first question that a trail lacks is one that it lacks
lacks_first : (trail : List (Question × Reply)) (qs : List Question) (q : Question) → first_unrecorded trail qs ≡ Some q
    → reply_in trail q ≡ None
lacks_first trail [] q is = cc
lacks_first trail (p ∷ qs) q is = by_reply (lacks_first trail qs q) (reply_in trail p) refl is
  where
    by_reply : (first_unrecorded trail qs ≡ Some q → reply_in trail q ≡ None) → (o : Option Reply)
        → reply_in trail p ≡ o → cond (is_none o) (Some p) (first_unrecorded trail qs) ≡ Some q
        → reply_in trail q ≡ None
    by_reply later None lacks is = let same : p ≡ q = cc in ap (reply_in trail) (sym same) ∙ lacks
    by_reply later (Some r) has is = later is

from_empty : (t : Files) (old new : List (Question × Reply)) (put : List Question) → old ≡ [] → new ≡ recorded t old put
    → new ≡ recorded t [] put
from_empty t old new put empty is = is ∙ ap (λ before. recorded t before put) empty

-- a question that the recorder's trail has and the other one lacks is the order's first such one
first-asked : {A : Type 0} (t : Files) (trail : List (Question × Reply)) (old new : Asking) (r : Result A ReadError)
    (plan : Plan A) (q : Question) → old.trail ≡ [] → Answers t old new r plan
    → first_unrecorded trail (questions_of new.trail) ≡ Some q → first_unrecorded trail (asked t plan) ≡ Some q
first-asked t trail old new (Ok a) plan q empty h is =
    first-put t trail new.trail (asked t plan) (asked t plan) []
    (from_empty t old.trail new.trail (asked t plan) empty h.1) (sym (append-nil (asked t plan))) ∙ or_none _ ∙ is
first-asked t trail old new (Err read.Fault) plan q empty h is =
    first-put t trail new.trail (asked t plan) h.put (h.next ∷ h.left)
    (from_empty t old.trail new.trail h.put empty h.trail) h.in_order
    ∙ ap (λ o. option_or o (first_unrecorded trail (h.next ∷ h.left))) is
first-asked t trail old new (Err read.NoMemory) plan q empty h is =
    first-put t trail new.trail (asked t plan) h.put h.left (from_empty t old.trail new.trail h.put empty h.trail)
    h.in_order
    ∙ ap (λ o. option_or o (first_unrecorded trail h.left)) is

-- where the trail has all questions of the recorder's trail and those were all that the order puts, it has all of the
-- order's
none-asked : {A : Type 0} (t : Files) (trail : List (Question × Reply)) (old new : Asking) (a : A) (plan : Plan A)
    → old.trail ≡ [] → Answers t old new (Ok a) plan → first_unrecorded trail (questions_of new.trail) ≡ None
    → first_unrecorded trail (asked t plan) ≡ None
none-asked t trail old new a plan empty h is =
    first-put t trail new.trail (asked t plan) (asked t plan) []
    (from_empty t old.trail new.trail (asked t plan) empty h.1) (sym (append-nil (asked t plan))) ∙ or_none _ ∙ is

-- where a question was refused that the trail lacks, it is the order's first such one
first-refused : {A : Type 0} (t : Files) (trail : List (Question × Reply)) (old new : Asking) (plan : Plan A)
    (q : Question) → old.trail ≡ [] → Answers {A = A} t old new (Err read.Fault) plan
    → first_unrecorded trail (questions_of new.trail) ≡ None → new.tree.told ≡ Some q → reply_in trail q ≡ None
    → first_unrecorded trail (asked t plan) ≡ Some q
first-refused t trail old new plan q empty h is told lacked =
    let P : Option Question → Type 0 = λ o. IfSome o (λ x. x ≡ h.next) in
    let next : q ≡ h.next = subst P told h.told in
    let lacks : reply_in trail h.next ≡ None = ap (reply_in trail) (sym next) ∙ lacked in
    first-put t trail new.trail (asked t plan) h.put (h.next ∷ h.left)
    (from_empty t old.trail new.trail h.put empty h.trail) h.in_order
    ∙ ap (λ o. option_or o (first_unrecorded trail (h.next ∷ h.left))) is
    ∙ ap (λ o. cond (is_none o) (Some h.next) (first_unrecorded trail h.left)) lacks
    ∙ ap Some (sym next)

-- what the order came to, on each tree that agrees with the trail
pub record OnAgreeing {A : Type 0} (trail : List (Question × Reply)) (old new : Asking) (r : Result A ReadError)
    (plan : Plan A) : Type 0 where
  pub empty : old.trail ≡ []
  pub answers : (t : Files) → Agrees t trail → Answers t old new r plan

pub on_agreeing : {A : Type 0} {trail : List (Question × Reply)} {old new : Asking} {r : Result A ReadError}
    {plan : Plan A} → IsSearch trail old new r plan → AgreeWith new.tree.stands_for new.trail
    → OnAgreeing trail old new r plan
on_agreeing {trail = trail} search agree = record {
  empty = search.empty;
  answers = λ t agrees.
      let same = search.asks.stands ∙ search.over in
      search.asks.answers t (agree t (ap (λ (f : Files → Bool). f t) same ∙ agrees_with-passes trail t agrees));
}

missed_is : {A : Type 0} (o : Option Question) (q : Question) → let failed : Result A ReplayError =
    Err (NotRecorded q) in misses o ≡ failed → o ≡ Some q
missed_is None q is = cc
missed_is (Some p) q is = cc

no_answer : {A : Type 0} (o : Option Question) (a : A) → misses o ≡ Ok a → ⊥
no_answer None a is = cc
no_answer (Some p) a is = cc

-- what the tree missed, where the trail has no reply to it
unrecorded_is : (trail : List (Question × Reply)) (missing : Option Question) (q : Question)
    → if_unrecorded trail missing ≡ Some q → (missing ≡ Some q) × (reply_in trail q ≡ None)
unrecorded_is trail None q is = cc
unrecorded_is trail (Some p) q is = by_reply (reply_in trail p) refl is
  where
    by_reply : (o : Option Reply) → reply_in trail p ≡ o → cond (is_none o) (Some p) None ≡ Some q → (Some p ≡ Some q)
        × (reply_in trail q ≡ None)
    by_reply None lacks is = (is, lacks_first trail (p ∷ []) q (ap (λ o. cond (is_none o) (Some p) None) lacks ∙ is))
    by_reply (Some r) has is = cc

replayed : {A : Type 0} (trail : List (Question × Reply)) (missing : Option Question) (old new : Asking)
    (r : Result A ReadError) (plan : Plan A) (a : A) → OnAgreeing trail old new r plan → (first : Option Question)
    → first_unrecorded trail (questions_of new.trail) ≡ first → ended trail first missing r ≡ Ok a
    → IsReplayedAnswer a trail plan
replayed trail missing old new r plan a on (Some q) first is = cc
replayed trail missing old new (Ok b) plan a on None first is =
    let same : b ≡ a = cc in record {
      answers = λ t agrees. sym same ∙ (on.answers t agrees).0;
      recorded = λ t agrees. none-asked t trail old new b plan on.empty (on.answers t agrees) first;
    }
replayed trail missing old new (Err read.Fault) plan a on None first is =
    absurd (no_answer (if_unrecorded trail missing) a is)
replayed trail missing old new (Err read.NoMemory) plan a on None first is = cc

missed : {A : Type 0} (trail : List (Question × Reply)) (missing : Option Question) (old new : Asking)
    (r : Result A ReadError) (plan : Plan A) (q : Question) → OnAgreeing trail old new r plan → missing ≡ new.tree.told
    → (first : Option Question) → first_unrecorded trail (questions_of new.trail) ≡ first
    → let failed : Result A ReplayError = Err (NotRecorded q) in ended trail first missing r ≡ failed
    → IsMissing q trail plan
missed trail missing old new r plan q on told (Some p) first is =
    let same : p ≡ q = cc in
    let found = first ∙ ap Some same in record {
      lacked = lacks_first trail (questions_of new.trail) q found;
      first = λ t agrees. first-asked t trail old new r plan q on.empty (on.answers t agrees) found;
    }
missed trail missing old new (Ok b) plan q on told None first is = cc
missed trail missing old new (Err read.Fault) plan q on told None first is =
    let kept = unrecorded_is trail missing q (missed_is (if_unrecorded trail missing) q is) in record {
      lacked = kept.1;
      first = λ t agrees. first-refused t trail old new plan q on.empty (on.answers t agrees) first (sym told ∙ kept.0)
          kept.1;
    }
missed trail missing old new (Err read.NoMemory) plan q on told None first is = cc

-- how a replay ends
pub replays : {A : Type 0} (trail : List (Question × Reply)) (missing : Option Question) (old new : Asking)
    (r : Result A ReadError) (plan : Plan A) (result : Result A ReplayError) → OnAgreeing trail old new r plan
    → missing ≡ new.tree.told → IsUnlessStarved result (ended trail (first_unrecorded trail (questions_of new.trail))
    missing r) → Replays result trail plan
replays trail missing old new r plan (Ok a) on told is = replayed trail missing old new r plan a on _ refl is
replays trail missing old new r plan (Err (NotRecorded q)) on told is =
    missed trail missing old new r plan q on told _ refl is
replays trail missing old new r plan (Err NoMemory) on told is = tt

-- a trail has each of its own questions
own_question : (trail steps : List (Question × Reply)) (q : Question)
    → first_unrecorded trail (questions_of steps) ≡ Some q → is_some (reply_in steps q) ≡ true
own_question trail [] q is = cc
own_question trail (s ∷ steps) q is = by_reply (own_question trail steps q) (is_none (reply_in trail s.0)) is
  where
    later : (b : Bool) → is_some (reply_in steps q) ≡ true → is_some (cond b (Some s.1) (reply_in steps q)) ≡ true
    later true has = refl
    later false has = has

    by_reply : (first_unrecorded trail (questions_of steps) ≡ Some q → is_some (reply_in steps q) ≡ true) → (b : Bool)
        → cond b (Some s.0) (first_unrecorded trail (questions_of steps)) ≡ Some q
        → is_some (cond (question_eq s.0 q) (Some s.1) (reply_in steps q)) ≡ true
    by_reply more true is = let same : s.0 ≡ q = cc in
        ap (λ p. is_some (cond (question_eq s.0 p) (Some s.1) (reply_in steps q))) (sym same)
        ∙ ap (λ b. is_some (cond b (Some s.1) (reply_in steps q))) (question_eq-refl s.0)
    by_reply more false is = later (question_eq s.0 q) (more is)

-- the trail that settles an answer lacks none of the order's questions
settled_whole : {A : Type 0} (t : Files) (a : A) (trail : List (Question × Reply)) (plan : Plan A) (q : Question)
    → Agrees t trail → Settles a trail plan → first_unrecorded trail (asked t plan) ≡ Some q → ⊥
settled_whole t a trail plan q agrees settled is =
    let own = first-put t trail trail (asked t plan) (asked t plan) [] (settled.trail t agrees)
    (sym (append-nil (asked t plan))) ∙ or_none _ in
    let first = sym own ∙ is in
    let lacks = lacks_first trail (asked t plan) q is in
    let has = own_question trail trail q first in
    cc

pub gives_again : {A : Type 0} (trail : List (Question × Reply)) (plan : Plan A) (result : Result A ReplayError)
    → Replays result trail plan → GivesAgain result trail plan
gives_again trail plan (Ok b) is = record {
  again = λ t a agrees settled. is.answers t agrees ∙ sym (settled.verdict t agrees);
}
gives_again trail plan (Err (NotRecorded q)) is = record {
  again = λ t a agrees settled. absurd (settled_whole t a trail plan q agrees settled (is.first t agrees));
}
gives_again trail plan (Err NoMemory) is = record { again = λ t a agrees settled. refl }

-- the first step of a trail whose question another one lacks
pub first_step : (trail steps : List (Question × Reply))
    → first_unrecorded trail (questions_of steps) ≡ option_map (λ step. step.0)
    (find (λ step. is_none (reply_in trail step.0)) steps)
first_step trail [] = refl
first_step trail (s ∷ steps) = by_lack (is_none (reply_in trail s.0)) (first_step trail steps)
  where
    by_lack : (b : Bool) → first_unrecorded trail (questions_of steps) ≡ option_map (λ step. step.0)
        (find (λ step. is_none (reply_in trail step.0)) steps)
        → cond b (Some s.0) (first_unrecorded trail (questions_of steps)) ≡ option_map (λ step. step.0)
        (cond b (Some s) (find (λ step. is_none (reply_in trail step.0)) steps))
    by_lack true rest = refl
    by_lack false rest = rest
