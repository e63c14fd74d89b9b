-- How an order goes by its rows.
use Rattle.std.proofs.Common.{◌≡◌, Result, Ok, Err, refl, ap, ◌∙◌}
use Rattle.tree_core.specs.Plan.{Plan, Done, Ask, ◌>>=◌, ◌>>=?◌, on_ok}
use Rattle.tree_core.specs.Rows.{Going, Row, end_of, order, or_refused, refuses_by, ends_by}

-- plans one after the other, however they are grouped
pub then-then : {A B C : Type 0} (p : Plan A) (k : A → Plan B) (l : B → Plan C) → (p >>= k) >>= l ≡ p >>= λ a. k a >>= l
unfolding ◌>>=◌
then-then (Done a) k l = refl
then-then (Ask q n) k l = λ i. Ask q (λ r. then-then (n r) k l i)

-- a plan and then its own answer
pub then-done : {A : Type 0} (p : Plan A) → p >>= Done ≡ p
unfolding ◌>>=◌
then-done (Done a) = refl
then-done (Ask q n) = λ i. Ask q (λ r. then-done (n r) i)

-- plans that go on alike by each answer
pub then_alike : {A B : Type 0} (p : Plan A) (k l : A → Plan B) → ((a : A) → k a ≡ l a) → p >>= k ≡ p >>= l
then_alike p k l same = ap (λ f. p >>= f) (λ i a. same a i)

-- A row by a plan that may refuse: its refusal is the order's, and its answer goes on.
pub order-refuses_by : {A R X : Type 0} (p : Plan (Result A X)) (k : A → Row R R X) → order (refuses_by p >>=? k) ≡ p
    >>=? λ a. order (k a)
unfolding order refuses_by ◌>>=◌
order-refuses_by {A = A} {R = R} {X = X} p k =
    then-then (p >>= λ r. Done (or_refused r)) (on_ok k) (λ going. Done (end_of going))
    ∙ then-then p (λ r. Done (or_refused r)) (λ going. on_ok k going >>= λ e. Done (end_of e))
    ∙ then_alike p _ _ by_result
  where
    by_result : (r : Result A X) → (let going : Going A R X = or_refused r in on_ok k going >>= λ e. Done (end_of e)) ≡
        on_ok (λ a. order (k a)) r
    by_result (Ok a) = refl
    by_result (Err x) = refl

-- A row that ends the order: what follows doesn't come.
pub order-ends_by : {A R X : Type 0} (p : Plan (Result R X)) (k : A → Row R R X) → order (ends_by p >>=? k) ≡ p
unfolding order ends_by ◌>>=◌
order-ends_by p k =
    then-then (p >>= λ r. Done (Err r)) (on_ok k) (λ going. Done (end_of going))
    ∙ then-then p (λ r. Done (Err r)) (λ going. on_ok k going >>= λ e. Done (end_of e))
    ∙ then-done p

-- A row that decides by a refusal or a value.
pub order-goes_on : {A R X : Type 0} (a : A) (k : A → Row R R X) → order (Done (Ok a) >>=? k) ≡ order (k a)
unfolding order ◌>>=◌
order-goes_on a k = refl

-- The last row.
pub order-last : {R X : Type 0} (p : Plan (Result R X)) → order (refuses_by p) ≡ p
unfolding order refuses_by ◌>>=◌
order-last {R = R} {X = X} p =
    then-then p (λ r. Done (or_refused r)) (λ going. Done (end_of going)) ∙ then_alike p _ Done by_result ∙ then-done p
  where
    by_result : (r : Result R X) → (let going : Going R R X = or_refused r in Done (end_of going)) ≡ Done r
    by_result (Ok a) = refl
    by_result (Err x) = refl
