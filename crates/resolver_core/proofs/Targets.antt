-- The plan of targets, as a loop over them goes on by it.
use Rattle.std.proofs.Common.{◌≡◌, List, [], ◌∷◌, ◌++◌, Result, Ok, Err, refl, sym, ap, ◌∙◌, append_assoc}
use Rattle.std.proofs.lemmas.List.{append-nil}
use Rattle.tree_core.specs.Plan.{Plan, Done, ◌>>=◌}
use Rattle.tree_core.specs.Asks.{Asking, Leads}
use Rattle.tree_core.proofs.Asking.{leads_self}
use Rattle.tree_core.proofs.RowOrders.{then-then, then-done, then_alike}
use Rattle.swc_loader.specs.declared.resolution.Resolution.{Resolution}
use Rattle.resolver_core.specs.Mapping.{Order, Tries, first_success, with_refusal, or_more, each_target}

-- the refusals so far stand in front
abbrev pub behind_all : {X : Type 0} → List X → Result Resolution (List X) → Result Resolution (List X)
behind_all xs (Ok r) = Ok r
behind_all xs (Err ys) = Err (xs ++ ys)

abbrev pub or_next_target : {X : Type 0} → List X → (List X → Plan (Result Resolution (List X))) → Result Resolution X
    → Plan (Result Resolution (List X))
or_next_target refusals next (Ok r) = Done (Ok r)
or_next_target refusals next (Err x) = next (refusals ++ x ∷ [])

-- the targets that are left, behind the refusals so far
abbrev pub left_targets : {X : Type 0} → Order X → List Tries → List X → Plan (Result Resolution (List X))
left_targets inner [] refusals = Done (Err refusals)
left_targets inner (ts ∷ rest) refusals =
    first_success inner ts >>= or_next_target refusals (left_targets inner rest)

left-is : {X : Type 0} (inner : Order X) (targets : List Tries) (xs : List X)
    → left_targets inner targets xs ≡ (each_target inner targets >>= λ o. Done (behind_all xs o))
unfolding ◌>>=◌
left-is inner [] xs = ap (λ ys. Done (Err ys)) (sym (append-nil xs))
left-is {X = X} inner (ts ∷ rest) xs =
    then_alike (first_success inner ts) _ _ (by_result (λ ys. left-is inner rest ys))
    ∙ sym (then-then (first_success inner ts) (or_more (each_target inner rest)) (λ o. Done (behind_all xs o)))
  where
    shift : (x : X) (o : Result Resolution (List X))
        → Done (behind_all (xs ++ x ∷ []) o) ≡ (Done (with_refusal x o) >>= λ p. Done (behind_all xs p))
    shift x (Ok r) = refl
    shift x (Err ys) = ap (λ zs. Done (Err zs)) (append_assoc xs (x ∷ []) ys)

    by_result : ((ys : List X) → left_targets inner rest ys ≡ (each_target inner rest >>= λ o. Done (behind_all ys o)))
        → (r : Result Resolution X) → or_next_target xs (left_targets inner rest) r ≡
        (or_more (each_target inner rest) r >>= λ o. Done (behind_all xs o))
    by_result again (Ok a) = refl
    by_result again (Err x) =
        again (xs ++ x ∷ [])
        ∙ then_alike (each_target inner rest) _ _ (shift x)
        ∙ sym (then-then (each_target inner rest) (λ o. Done (with_refusal x o)) (λ o. Done (behind_all xs o)))

-- With no refusal so far all are left.
each-left : {X : Type 0} (inner : Order X) (targets : List Tries)
    → left_targets inner targets [] ≡ each_target inner targets
each-left {X = X} inner targets =
    left-is inner targets []
    ∙ then_alike (each_target inner targets) (λ o. Done (behind_all [] o)) Done none
    ∙ then-done (each_target inner targets)
  where
    none : (o : Result Resolution (List X)) → Done (behind_all [] o) ≡ Done o
    none (Ok r) = refl
    none (Err ys) = refl

pub leads-all : {X : Type 0} {s : Asking} (inner : Order X) (targets : List Tries)
    → Leads s s (each_target inner targets) (left_targets inner targets [])
leads-all inner targets = rw (each-left inner targets) leads_self
