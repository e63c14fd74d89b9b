-- What a mapping tells of a tree, as a function of what the order behind it tells there: the laws by which a reader
-- checks the plan.
use Rattle.std.specs.Prelude.{◌≡◌, ◌⊎◌, ℕ, List, [], ◌∷◌, ◌++◌, Option, Some, None, Result, Ok, Err}
use Rattle.std.specs.List.{AllByRecursion}
use Rattle.tree_core.specs.Tree.{Files}
use Rattle.tree_core.specs.Told.{Told, told, unasked, made, ◌>>=◌}
use Rattle.swc_loader.specs.declared.resolution.FileName.{FileName}
use Rattle.swc_loader.specs.declared.resolution.Resolution.{Resolution}
use Rattle.resolver_core.specs.declared.refusal.TsRefusal.{TsRefusal}
use Rattle.resolver_core.specs.Mapping.{
  Order,
  Mapping,
  Try,
  Tries,
  Last,
  First,
  Mapped,
  Passed,
  Unchecked,
  OrUnchecked,
  OrFault,
  masked,
  mapped,
  mapping_order,
  with_refusal,
  passed,
  or_unchecked,
  or_fault,
}

-- what requests tell of a tree, by base and specifier
abbrev pub Tells : Type 0 → Type 0
Tells X = FileName → List ℕ → Told (Result Resolution X)

abbrev pub tells_on : {X : Type 0} → Files → Order X → Tells X
tells_on t inner base specifier = told t (inner base specifier)

-- what a try answers of an inner answer; a refusal stays
abbrev pub answered_by : {X : Type 0} → Try → Result Resolution X → Result Resolution X
answered_by t (Ok r) = Ok (t.answer (masked t.base t.specifier r))
answered_by t (Err x) = Err x

-- a try asks what its inner request asks
abbrev pub tried_on : {X : Type 0} → Tells X → Try → Told (Result Resolution X)
tried_on inner t = made (answered_by t) (inner t.base t.specifier)

-- an answer ends the search; behind a refusal comes what is next
abbrev pub or_next_on : {A X : Type 0} → Told (Result A X) → Result A X → Told (Result A X)
or_next_on next (Ok a) = unasked (Ok a)
or_next_on next (Err x) = next

-- the first answer of tries, or the refusal of the last
abbrev pub first_on : {X : Type 0} → Tells X → Tries → Told (Result Resolution X)
first_on inner (Last t) = tried_on inner t
first_on inner (First t ts) = tried_on inner t >>= or_next_on (first_on inner ts)

-- an answer ends the search; behind a refusal come the next targets, whose refusals follow it
abbrev pub or_more_on : {X : Type 0} → Told (Result Resolution (List X)) → Result Resolution X
    → Told (Result Resolution (List X))
or_more_on next (Ok r) = unasked (Ok r)
or_more_on next (Err x) = made (with_refusal x) next

-- the first answer of targets, or the refusal of each one's last try
abbrev pub targets_on : {X : Type 0} → Tells X → List Tries → Told (Result Resolution (List X))
targets_on inner [] = unasked (Err [])
targets_on inner (ts ∷ rest) = first_on inner ts >>= or_more_on (targets_on inner rest)

-- what a mapped request tells: how each mapping ends is said without a further question
abbrev pub mapped_on : {X : Type 0} → Tells X → Mapped → Told (Result Resolution (TsRefusal X))
mapped_on inner (Passed ts) = made passed (first_on inner ts)
mapped_on inner (Unchecked r) = unasked (Ok r)
mapped_on inner (OrUnchecked ts r) = made (or_unchecked r) (first_on inner ts)
mapped_on inner (OrFault pattern targets) = made (or_fault pattern) (targets_on inner targets)

-- a mapping in front of an order, on each tree
pub record MappingOnTree (X : Type 0) : Type 0 where
  pub tells : (t : Files) (inner : Order X) (m : Mapping) (base : FileName) (s : List ℕ) →
      told t (mapping_order inner m base s) ≡ mapped_on (tells_on t inner) (mapped m base s)

-- the tries of a mapped request, in order
abbrev pub listed : Tries → List Try
listed (Last t) = t ∷ []
listed (First t ts) = t ∷ listed ts

abbrev pub all_listed : List Tries → List Try
all_listed [] = []
all_listed (ts ∷ rest) = listed ts ++ all_listed rest

abbrev pub tries_in : Mapped → List Try
tries_in (Passed ts) = listed ts
tries_in (Unchecked r) = []
tries_in (OrUnchecked ts r) = listed ts
tries_in (OrFault pattern targets) = all_listed targets

-- an inner request that is refused
abbrev pub Fails : {X : Type 0} → Tells X → Try → Type 0
Fails {X = X} inner t = (x : X) × ((inner t.base t.specifier).result ≡ Err x)

-- An answer is made of the first try that the order behind the mapping answers: each try before it was refused, and the
-- file that was found is that of the inner answer.
pub record IsFirstAnswer {X : Type 0} (inner : Tells X) (tries : List Try) (r : Resolution) : Type 0 where
  pub before : List Try
  pub by : Try
  pub later : List Try
  pub in_order : tries ≡ before ++ by ∷ later
  pub failed : AllByRecursion (Fails inner) before
  pub answer : Resolution
  pub answered : (inner by.base by.specifier).result ≡ Ok answer
  pub made_of : r ≡ by.answer (masked by.base by.specifier answer)
  pub same_file : r.found ≡ answer.found

-- the answer of a mapped request that nothing checks, where it has one
abbrev pub unchecked_in : Mapped → Option Resolution
unchecked_in (Passed ts) = None
unchecked_in (Unchecked r) = Some r
unchecked_in (OrUnchecked ts r) = Some r
unchecked_in (OrFault pattern targets) = None

-- An answer is the one that nothing checks: each try was refused, and it tells no file.
pub record IsUncheckedAnswer {X : Type 0} (inner : Tells X) (m : Mapped) (r : Resolution) : Type 0 where
  pub is : unchecked_in m ≡ Some r
  pub failed : AllByRecursion (Fails inner) (tries_in m)
  pub no_file : r.found ≡ None

-- Each answer of a mapping is its unchecked one, or is made of its first inner answer, also where that tells no file.
pub record FirstAnswerDecides (X : Type 0) : Type 0 where
  pub decides : (inner : Tells X) (m : Mapping) (base : FileName) (s : List ℕ) (r : Resolution) →
      (mapped_on inner (mapped m base s)).result ≡ Ok r →
      IsUncheckedAnswer inner (mapped m base s) r ⊎ IsFirstAnswer inner (tries_in (mapped m base s)) r
