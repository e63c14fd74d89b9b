-- What an order by its rows comes to on a tree, and what it asks.
use Rattle.std.proofs.Common.{◌≡◌, List, [], ◌∷◌, ◌++◌, Result, Ok, Err, refl, ap, ◌∙◌}
use Rattle.tree_core.specs.declared.question.Question.{Question}
use Rattle.tree_core.specs.Tree.{Files}
use Rattle.tree_core.specs.Plan.{Plan, Done, answer, asked, ◌>>=◌, ◌>>=?◌, on_ok}
use Rattle.tree_core.specs.Asks.{raised, widened}
use Rattle.tree_core.specs.Rows.{order, or_refused}
use Rattle.tree_core.specs.Results.{asks_after}
use Rattle.tree_core.specs.Results as results
use Rattle.tree_core.proofs.Asking.{answer-then, asked-then, answer-done, asked-done}

append_nothing : {A : Type 0} (xs : List A) → xs ++ [] ≡ xs
append_nothing [] = refl
append_nothing (x ∷ xs) = ap (λ ys. x ∷ ys) (append_nothing xs)

-- a plan whose answer is made into another without a question
pub answer-made : {A B : Type 0} (t : Files) (p : Plan A) (f : A → B)
    → answer t (p >>= λ a. Done (f a)) ≡ f (answer t p)
answer-made t p f = answer-then t p (λ a. Done (f a)) ∙ answer-done t (f (answer t p))

pub asked-made : {A B : Type 0} (t : Files) (p : Plan A) (f : A → B) → asked t (p >>= λ a. Done (f a)) ≡ asked t p
asked-made t p f = asked-then t p (λ a. Done (f a)) ∙ ap (λ qs. asked t p ++ qs) (asked-done t (f (answer t p)))
    ∙ append_nothing (asked t p)

pub answer-raised : {A X Y : Type 0} (t : Files) (wide : X → Y) (p : Plan (Result A X))
    → answer t (raised wide p) ≡ widened wide (answer t p)
answer-raised t wide p = answer-made t p (widened wide)

-- a row, and then the rest
pub step : {A B X : Type 0} {r : Result A X} {f : A → Result B X} (t : Files) (p : Plan (Result A X))
    (k : A → Plan (Result B X)) → answer t p ≡ r → ((a : A) → answer t (k a) ≡ f a)
    → answer t (p >>=? k) ≡ results.◌>>=◌ r f
step {A = A} {B = B} {X = X} {r = r} {f = f} t p k is rest =
    answer-then t p (on_ok k) ∙ ap (λ a. answer t (on_ok k a)) is ∙ by_result r
  where
    by_result : (r : Result A X) → answer t (on_ok k r) ≡ results.◌>>=◌ r f
    by_result (Ok a) = rest a
    by_result (Err x) = answer-done t (Err x)

-- a row without a question
pub row : {A B X : Type 0} {f : A → Result B X} (t : Files) (r : Result A X) (k : A → Plan (Result B X))
    → ((a : A) → answer t (k a) ≡ f a) → answer t (Done r >>=? k) ≡ results.◌>>=◌ r f
row t r k rest = step t (Done r) k (answer-done t r) rest

-- what a step that may refuse gives, as a row, is followed by the questions that its answer gives
pub asks_refused : {A X : Type 0} (R : Type 0) (r : Result A X) (f : A → List Question)
    → asks_after (or_refused {R = R} r) f ≡ asks_after r f
asks_refused R (Ok a) f = refl
asks_refused R (Err x) f = refl
