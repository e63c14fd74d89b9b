-- Plans that come to one answer on a tree, by the same questions: a call by one of them is a call by the other.
use Rattle.std.proofs.Common.{◌≡◌, List, [], ◌∷◌, ◌++◌, Result, Ok, Err, refl, sym, ap, ◌∙◌}
use Rattle.tree_core.specs.declared.question.Question.{Question}
use Rattle.tree_core.specs.declared.question.Reply.{Reply}
use Rattle.tree_core.specs.declared.tree.ReadError.{ReadError}
use Rattle.tree_core.specs.declared.tree.ReadError.TheVariants.{Fault, NoMemory}
use Rattle.tree_core.specs.Question.{reply_in}
use Rattle.tree_core.specs.Tree.{Files, reply, noted_as, recorded, AgreeOn, Agrees}
use Rattle.tree_core.specs.Plan.{Plan, Done, Ask, answer, asked, ◌>>=◌, ◌>>=?◌, on_ok}
use Rattle.tree_core.specs.Asks.{Asking, Answers, Asks}
use Rattle.tree_core.proofs.Asking.{answer-then, asked-then, decided}
use Rattle.tree_core.proofs.Recorded.{agree_on-recorded}

pub record Alike {A : Type 0} (t : Files) (p q : Plan A) : Type 0 where
  pub answers : answer t p ≡ answer t q
  pub asks : asked t p ≡ asked t q

pub alike_self : {A : Type 0} {t : Files} {p : Plan A} → Alike t p p
alike_self = record { answers = refl; asks = refl }

-- Plans that begin alike and go on alike.
pub alike_then : {A B : Type 0} {t : Files} {p q : Plan A} (k l : A → Plan B) → Alike t p q →
    ((a : A) → Alike t (k a) (l a)) → Alike t (p >>= k) (q >>= l)
alike_then {t = t} {p = p} {q = q} k l first rest = record {
  answers =
      answer-then t p k
      ∙ ap (λ a. answer t (k a)) first.answers
      ∙ (rest (answer t q)).answers
      ∙ sym (answer-then t q l);
  asks =
      asked-then t p k
      ∙ (λ i. first.asks i ++ asked t (k (first.answers i)))
      ∙ ap (λ qs. asked t q ++ qs) (rest (answer t q)).asks
      ∙ sym (asked-then t q l);
}

-- Plans that may refuse and go on alike are alike.
pub alike_on_ok : {A B X : Type 0} {t : Files} {p q : Plan (Result A X)} (k l : A → Plan (Result B X)) → Alike t p q →
    ((a : A) → Alike t (k a) (l a)) → Alike t (p >>=? k) (q >>=? l)
alike_on_ok {A = A} {B = B} {X = X} {t = t} k l first rest = alike_then (on_ok k) (on_ok l) first by_result
  where
    by_result : (r : Result A X) → Alike t (on_ok k r) (on_ok l r)
    by_result (Ok a) = rest a
    by_result (Err x) = alike_self

-- what is recorded hangs on the replies alone
recorded_alike : (t u : Files) (trail : List (Question × Reply)) (qs : List Question) → AgreeOn t u qs →
    recorded u trail qs ≡ recorded t trail qs
recorded_alike t u trail [] h = refl
recorded_alike t u trail (q ∷ qs) h =
    ap (λ r. recorded u (noted_as trail q r) qs) h.0
    ∙ recorded_alike t u (noted_as trail q (reply t q)) qs h.1

-- what else a tree is asked behind questions to which it replies as another tree does
record Front {A : Type 0} (u : Files) (p : Plan A) (put : List Question) : Type 0 where
  pub left : List Question
  pub in_order : asked u p ≡ put ++ left

front : {A : Type 0} (t u : Files) (p : Plan A) (put left : List Question) → asked t p ≡ put ++ left →
    AgreeOn t u put → Front u p put
unfolding asked
front t u p [] left is h = record { left = asked u p; in_order = refl }
front t u (Done a) (x ∷ put) left is h = cc
front t u (Ask q n) (x ∷ put) left is h =
    let same : q ≡ x = cc in
    let rest : asked t (n (reply t q)) ≡ put ++ left = cc in
    let replies : reply u q ≡ reply t q = ap (reply u) same ∙ h.0 ∙ ap (reply t) (sym same) in
    let f = front t u (n (reply t q)) put left rest h.1 in
    record {
      left = f.left;
      in_order = ap (λ r. q ∷ asked u (n r)) replies ∙ ap (λ qs. q ∷ qs) f.in_order ∙ ap (λ x. x ∷ put ++ f.left) same;
    }

record FrontAt {A : Type 0} (u : Files) (p : Plan A) (put : List Question) (next : Question) : Type 0 where
  pub left : List Question
  pub in_order : asked u p ≡ put ++ next ∷ left

front_at : {A : Type 0} (t u : Files) (p : Plan A) (put left : List Question) (next : Question) →
    asked t p ≡ put ++ next ∷ left → AgreeOn t u put → FrontAt u p put next
unfolding asked
front_at t u (Done a) [] left next is h = cc
front_at t u (Ask q n) [] left next is h =
    let same : q ≡ next = cc in
    record { left = asked u (n (reply u q)); in_order = ap (λ x. x ∷ asked u (n (reply u q))) same }
front_at t u (Done a) (x ∷ put) left next is h = cc
front_at t u (Ask q n) (x ∷ put) left next is h =
    let same : q ≡ x = cc in
    let rest : asked t (n (reply t q)) ≡ put ++ next ∷ left = cc in
    let replies : reply u q ≡ reply t q = ap (reply u) same ∙ h.0 ∙ ap (reply t) (sym same) in
    let f = front_at t u (n (reply t q)) put left next rest h.1 in
    record {
      left = f.left;
      in_order = ap (λ r. q ∷ asked u (n r)) replies ∙ ap (λ qs. q ∷ qs) f.in_order
          ∙ ap (λ x. x ∷ put ++ next ∷ f.left) same;
    }

-- what a call answers and leaves, on each tree that agrees with its trail, where two plans are alike on one of those
answers_alike : {A : Type 0} (t u : Files) (old new : Asking) (r : Result A ReadError) (p q : Plan A) → Alike t p q →
    Agrees u new.trail → Answers t old new r p → Answers u old new r p → Agrees t old.trail → Answers u old new r q
answers_alike t u old new (Ok a) p q alike agrees on_t on_u before =
    let same_q = decided t u q (agree_on-recorded t u old.trail (asked t q) before
    (agrees_now (asked t q) (on_t.1 ∙ ap (λ qs. recorded t old.trail qs) alike.asks))) in
    let same_p = decided t u p (agree_on-recorded t u old.trail (asked t p) before (agrees_now (asked t p) on_t.1)) in (
      on_t.0 ∙ alike.answers ∙ sym same_q.0,
      on_u.1 ∙ ap (λ qs. recorded u old.trail qs) (same_p.1 ∙ alike.asks ∙ sym same_q.1),
    )
  where
    agrees_now : (qs : List Question) → new.trail ≡ recorded t old.trail qs → Agrees u (recorded t old.trail qs)
    agrees_now qs is = λ x y known. agrees x y (ap (λ trail. reply_in trail x) is ∙ known)
answers_alike t u old new (Err Fault) p q alike agrees on_t on_u before =
    let same = agree_on-recorded t u old.trail on_t.put before
    (λ x y known. agrees x y (ap (λ trail. reply_in trail x) on_t.trail ∙ known)) in
    let f = front_at t u q on_t.put on_t.left on_t.next (sym alike.asks ∙ on_t.in_order) same in
    record {
      put = on_t.put;
      next = on_t.next;
      left = f.left;
      in_order = f.in_order;
      trail = on_t.trail ∙ sym (recorded_alike t u old.trail on_t.put same);
      lacked = on_t.lacked;
      told = on_t.told;
    }
answers_alike t u old new (Err NoMemory) p q alike agrees on_t on_u before =
    let same = agree_on-recorded t u old.trail on_t.put before
    (λ x y known. agrees x y (ap (λ trail. reply_in trail x) on_t.trail ∙ known)) in
    let f = front t u q on_t.put on_t.left (sym alike.asks ∙ on_t.in_order) same in
    record {
      put = on_t.put;
      left = f.left;
      in_order = f.in_order;
      trail = on_t.trail ∙ sym (recorded_alike t u old.trail on_t.put same);
    }

-- A call by a plan is one by another that is alike on a tree that agrees with the trail which the call leaves.
pub asks_alike : {A : Type 0} {old new : Asking} {r : Result A ReadError} {p q : Plan A} (t : Files) →
    Agrees t old.trail → Agrees t new.trail → Alike t p q → Asks old new r p → Asks old new r q
asks_alike {old = old} {new = new} {r = r} {p = p} {q = q} t before now alike h = record {
  same = h.same;
  stands = h.stands;
  cause = h.cause;
  answers = λ u agrees. answers_alike t u old new r p q alike agrees (h.answers t now) (h.answers u agrees) before;
  put = h.put;
}
