-- A mapping tells of a tree what the laws say.
use Rattle.std.proofs.Common.{◌≡◌, List, [], ◌∷◌, Result, Ok, Err, refl, ap, ◌∙◌}
use Rattle.std.proofs.lemmas.List.{append-nil}
use Rattle.tree_core.specs.Tree.{Files}
use Rattle.tree_core.specs.Plan.{Done, on_ok}
use Rattle.tree_core.specs.Told.{told, unasked, made}
use Rattle.tree_core.proofs.Tellings.{told-done, told-by, told-made, told-is}
use Rattle.swc_loader.specs.declared.resolution.Resolution.{Resolution}
use Rattle.resolver_core.specs.Mapping.{
  Order,
  Try,
  Tries,
  Last,
  First,
  Mapped,
  Passed,
  Unchecked,
  OrUnchecked,
  OrFault,
  masked,
  mapped,
  tried,
  or_next,
  first_success,
  with_refusal,
  or_more,
  each_target,
  by_mapped,
  passed,
  or_unchecked,
  or_fault,
}
use Rattle.resolver_core.specs.MappingOnTree.{
  tells_on,
  answered_by,
  tried_on,
  or_next_on,
  first_on,
  or_more_on,
  targets_on,
  mapped_on,
  MappingOnTree,
}

told-tried : {X : Type 0} (t : Files) (inner : Order X) (x : Try)
    → told t (tried inner x) ≡ tried_on (tells_on t inner) x
unfolding tried
told-tried {X = X} t inner x =
    told-by t (inner x.base x.specifier) _ refl by_result
    ∙ told-is refl (append-nil (told t (inner x.base x.specifier)).questions)
  where
    by_result : (r : Result Resolution X) → told t (on_ok (λ a. Done (Ok (x.answer (masked x.base x.specifier a)))) r) ≡
        unasked (answered_by x r)
    by_result (Ok a) = told-done t _
    by_result (Err e) = told-done t _

told-first : {X : Type 0} (t : Files) (inner : Order X) (ts : Tries)
    → told t (first_success inner ts) ≡ first_on (tells_on t inner) ts
told-first t inner (Last x) = told-tried t inner x
told-first {X = X} t inner (First x ts) =
    told-by t (tried inner x) (or_next (first_success inner ts)) (told-tried t inner x)
    (by_result (told-first t inner ts))
  where
    by_result : told t (first_success inner ts) ≡ first_on (tells_on t inner) ts → (r : Result Resolution X)
        → told t (or_next (first_success inner ts) r) ≡ or_next_on (first_on (tells_on t inner) ts) r
    by_result rest (Ok a) = told-done t _
    by_result rest (Err e) = rest

told-each : {X : Type 0} (t : Files) (inner : Order X) (targets : List Tries)
    → told t (each_target inner targets) ≡ targets_on (tells_on t inner) targets
told-each t inner [] = told-done t _
told-each {X = X} t inner (ts ∷ rest) =
    told-by t (first_success inner ts) (or_more (each_target inner rest)) (told-first t inner ts)
    (by_result (told-each t inner rest))
  where
    by_result : told t (each_target inner rest) ≡ targets_on (tells_on t inner) rest → (r : Result Resolution X)
        → told t (or_more (each_target inner rest) r) ≡ or_more_on (targets_on (tells_on t inner) rest) r
    by_result again (Ok a) = told-done t _
    by_result again (Err x) = told-made t (each_target inner rest) (with_refusal x) ∙ ap (made (with_refusal x)) again

told-mapped : {X : Type 0} (t : Files) (inner : Order X) (m : Mapped)
    → told t (by_mapped inner m) ≡ mapped_on (tells_on t inner) m
unfolding by_mapped
told-mapped t inner (Passed ts) = told-made t (first_success inner ts) passed ∙ ap (made passed) (told-first t inner ts)
told-mapped t inner (Unchecked r) = told-done t _
told-mapped t inner (OrUnchecked ts r) =
    told-made t (first_success inner ts) (or_unchecked r) ∙ ap (made (or_unchecked r)) (told-first t inner ts)
told-mapped t inner (OrFault pattern targets) =
    told-made t (each_target inner targets) (or_fault pattern)
    ∙ ap (made (or_fault pattern)) (told-each t inner targets)

pub mapping_on_tree : (X : Type 0) → MappingOnTree X
mapping_on_tree X = record { tells = λ t inner m base s. told-mapped t inner (mapped m base s) }
