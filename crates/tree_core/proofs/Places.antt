-- First places in a list, and what an index of them says of a question.
use Rattle.std.proofs.Common.{
  ◌≡◌,
  ◌+◌,
  ℕ,
  suc,
  Bool,
  true,
  false,
  cond,
  eqb,
  refl,
  sym,
  ap,
  ◌∙◌,
  List,
  [],
  ◌∷◌,
  ◌++◌,
  drop,
  get_or,
  length,
  Option,
  Some,
  None,
  is_some,
  inl,
  inr,
  arith,
  add-zero,
  zero-add,
}
use Rattle.std.specs.List.{position, position_from}
use Rattle.std.proofs.lemmas.Iterator.Adapters.{position_from-zero}
use Rattle.std.proofs.lemmas.Bool.Decides.{Decides-eqb}
use Rattle.tree_core.specs.declared.question.Question.{Question}
use Rattle.tree_core.specs.declared.question.Reply.{Reply}
use Rattle.tree_core.specs.Question.{question_eq, reply_in, place_in, fits}
use Rattle.tree_core.specs.Places.{hash_of, place_with, place_from, with_place, IsKept}
use Rattle.tree_core.proofs.Replies.{question_eq-is, chosen, all_fit-push}

-- the first place, by a recursion along the list
position-is : {X : Type 0} (p : X → Bool) (xs : List X) → position p xs ≡ position_from p 0 xs
position-is p xs = position_from-zero p xs

-- Where p passes, r does. So p's first place is the first from r's first place on.
module _ {X : Type 0} (p r : X → Bool) (pass : (x : X) → p x ≡ true → r x ≡ true) where
  fails : (x : X) → r x ≡ false → p x ≡ false
  fails x e = by_test (p x) (pass x)
    where
      by_test : (b : Bool) → (b ≡ true → r x ≡ true) → b ≡ false
      by_test true h = let yes = h refl in cc
      by_test false h = refl

  none_from : (i : ℕ) (xs : List X) → position_from r i xs ≡ None → position_from p i xs ≡ None
  none_from i [] e = refl
  none_from i (x ∷ xs) e =
      elim (chosen (r x) (Some i) (position_from r (i + 1) xs) None e) [
        | inl w ↦ cc
        | inr w ↦ rw (fails x w.0) (none_from (i + 1) xs w.1)
      ]

  some_from : (i k : ℕ) (xs : List X) → position_from r i xs ≡ Some k → (n : ℕ) × (k ≡ i + n)
      × (position_from p i xs ≡ position_from p k (drop n xs))
  some_from i k [] e = cc
  some_from i k (x ∷ xs) e =
      elim (chosen (r x) (Some i) (position_from r (i + 1) xs) (Some k) e) [
        | inl w ↦ let same : i ≡ k = cc in (0, omega (arith, same), ap (λ j. position_from p j (x ∷ xs)) same)
        | inr w ↦ let rest =
            some_from (i + 1) k xs w.1 in (suc rest.0, (let at = rest.1 in omega (arith, at)), rw (fails x w.0) rest.2)
      ]

-- after one more item the first place is the one before, or that item's
from-push : {X : Type 0} (p : X → Bool) (i : ℕ) (xs : List X) (y : X)
    → position_from p i (xs ++ y ∷ []) ≡ cond (is_some (position_from p i xs)) (position_from p i xs)
    (cond (p y) (Some (i + length xs)) None)
from-push p i [] y = rw (add-zero i) refl
from-push p i (x ∷ xs) y = by_test (p x) (from-push p (i + 1) xs y
    ∙ ap (λ n. cond (is_some (position_from p (i + 1) xs)) (position_from p (i + 1) xs) (cond (p y) (Some n) None))
    (omega arith))
  where
    by_test : (b : Bool) → position_from p (i + 1) (xs ++ y ∷ []) ≡ cond (is_some (position_from p (i + 1) xs))
        (position_from p (i + 1) xs) (cond (p y) (Some (i + suc (length xs))) None)
        → cond b (Some i) (position_from p (i + 1) (xs ++ y ∷ [])) ≡ cond
        (is_some (cond b (Some i) (position_from p (i + 1) xs))) (cond b (Some i) (position_from p (i + 1) xs))
        (cond (p y) (Some (i + suc (length xs))) None)
    by_test true rest = refl
    by_test false rest = rest

position-push : {X : Type 0} (p : X → Bool) (xs : List X) (y : X)
    → position p (xs ++ y ∷ []) ≡ cond (is_some (position p xs)) (position p xs) (cond (p y) (Some (length xs)) None)
position-push p xs y =
    position-is p (xs ++ y ∷ [])
    ∙ from-push p 0 xs y
    ∙ ap (λ n. cond (is_some (position_from p 0 xs)) (position_from p 0 xs) (cond (p y) (Some n) None))
    (zero-add (length xs))
    ∙ ap (λ o. cond (is_some o) o (cond (p y) (Some (length xs)) None)) (sym (position-is p xs))

-- one question has one hash
of_hash : (q : Question) (step : Question × Reply) → question_eq step.0 q ≡ true
    → eqb (hash_of step.0) (hash_of q) ≡ true
of_hash q step h = (Decides-eqb (hash_of step.0) (hash_of q)).1 (ap hash_of (question_eq-is step.0 q h))

-- A question whose hash has no place has none.
pub place-none : (steps : List (Question × Reply)) (q : Question) → place_with steps (hash_of q) ≡ None
    → place_in steps q ≡ None
place-none steps q none =
    position-is (λ step. question_eq step.0 q) steps
    ∙ none_from (λ step. question_eq step.0 q) (λ step. eqb (hash_of step.0) (hash_of q)) (of_hash q) 0 steps
    (sym (position-is (λ step. eqb (hash_of step.0) (hash_of q)) steps) ∙ none)

-- Else its first place is the first from that place on.
pub place-some : (steps : List (Question × Reply)) (q : Question) (k : ℕ) → place_with steps (hash_of q) ≡ Some k
    → place_in steps q ≡ place_from steps k q
place-some steps q k some =
    let found = some_from (λ step. question_eq step.0 q) (λ step. eqb (hash_of step.0) (hash_of q)) (of_hash q) 0 k
    steps (sym (position-is (λ step. eqb (hash_of step.0) (hash_of q)) steps) ∙ some) in
    let at = found.1 in
    let same : found.0 ≡ k = omega (arith, at) in
    position-is (λ step. question_eq step.0 q) steps ∙ found.2
    ∙ ap (λ n. position_from (λ (step : Question × Reply). question_eq step.0 q) k (drop n steps)) same

-- What stands at the first place is the first reply.
reply_from : (i k : ℕ) (steps : List (Question × Reply)) (q : Question) (d : Question × Reply)
    → position_from (λ step. question_eq step.0 q) i steps ≡ Some k → (n : ℕ) × (k ≡ i + n)
    × (reply_in steps q ≡ Some (get_or steps n d).1)
reply_from i k [] q d e = cc
reply_from i k (s ∷ steps) q d e =
    elim (chosen (question_eq s.0 q) (Some i) (position_from (λ step. question_eq step.0 q) (i + 1) steps) (Some k) e) [
      | inl w ↦ let same : i ≡ k = cc in (0, omega (arith, same), rw w.0 refl)
      | inr w ↦ let rest =
          reply_from (i + 1) k steps q d w.1 in (suc rest.0, (let at = rest.1 in omega (arith, at)), rw w.0 rest.2)
    ]

pub reply_at : (steps : List (Question × Reply)) (q : Question) (k : ℕ) (d : Question × Reply)
    → place_in steps q ≡ Some k → reply_in steps q ≡ Some (get_or steps k d).1
reply_at steps q k d is =
    let found = reply_from 0 k steps q d (sym (position-is (λ step. question_eq step.0 q) steps) ∙ is) in
    let at = found.1 in
    let same : found.0 ≡ k = omega (arith, at) in
    found.2 ∙ ap (λ n. Some (get_or steps n d).1) same

no_reply-from : (i : ℕ) (steps : List (Question × Reply)) (q : Question)
    → position_from (λ step. question_eq step.0 q) i steps ≡ None → reply_in steps q ≡ None
no_reply-from i [] q e = refl
no_reply-from i (s ∷ steps) q e =
    elim (chosen (question_eq s.0 q) (Some i) (position_from (λ step. question_eq step.0 q) (i + 1) steps) None e)
    [ inl w ↦ cc | inr w ↦ rw w.0 (no_reply-from (i + 1) steps q w.1) ]

-- A question that has no place has no reply.
pub no_reply : (steps : List (Question × Reply)) (q : Question) → place_in steps q ≡ None → reply_in steps q ≡ None
no_reply steps q none = no_reply-from 0 steps q (sym (position-is (λ step. question_eq step.0 q) steps) ∙ none)

-- The index of a trail with one more step.
pub kept-push : (steps : List (Question × Reply)) (before after : ℕ → Option ℕ) (q : Question) (r : Reply)
    → IsKept steps before → fits q r ≡ true → ((h : ℕ) → after h ≡ with_place before (hash_of q) (length steps) h)
    → IsKept (steps ++ (q, r) ∷ []) after
kept-push steps before after q r kept fit noted = record {
  fit = all_fit-push steps q r kept.fit fit;
  first = λ h.
      noted h
      ∙ ap (λ o. cond (is_some o) o (cond (eqb (hash_of q) h) (Some (length steps)) None)) (kept.first h)
      ∙ sym (position-push (λ step. eqb (hash_of step.0) h) steps (q, r));
}
