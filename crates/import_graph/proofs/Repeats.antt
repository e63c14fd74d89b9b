-- Texts without repeats, and texts that are put behind others.
use Rattle.std.proofs.Common.{
  ◌≡◌,
  ◌&&◌,
  ◌||◌,
  ℕ,
  Bool,
  true,
  false,
  not,
  cond,
  bytes_eq,
  List,
  [],
  ◌∷◌,
  ◌++◌,
  filter,
  refl,
  sym,
  ap,
  ◌∙◌,
  append_assoc,
  append-nil,
}
use Rattle.std.specs.List.{IsDistinct}
use Rattle.std.proofs.lemmas.Cmp.{nat_list_eq_equiv}
use Rattle.std.proofs.lemmas.List.Folds.{list_any-append}
use Rattle.std.proofs.lemmas.Map.Keys.{IsDistinct-push}
use Rattle.std.proofs.lemmas.Map.Steps.{list_any_congr}
use Rattle.indexmap.specs.IndexSet.{insert_key, insert_all}
use Rattle.import_graph.specs.Levels.{among, once, without}

-- a test of what another test leaves
pub filter-filter : {X : Type 0} (p q r : X → Bool) (xs : List X) → ((x : X) → r x ≡ (q x && p x))
    → filter p (filter q xs) ≡ filter r xs
filter-filter p q r [] both = refl
filter-filter {X} p q r (x ∷ xs) both = by_test (q x) (both x) (filter-filter p q r xs both)
  where
    by_test : (a : Bool) → r x ≡ (a && p x) → filter p (filter q xs) ≡ filter r xs
        → filter p (cond a (x ∷ filter q xs) (filter q xs)) ≡ cond (r x) (x ∷ filter r xs) (filter r xs)
    by_test true is rest = rw (is, rest) refl
    by_test false is rest = rw (is, rest) refl

or-false : (b : Bool) → (b || false) ≡ b
or-false true = refl
or-false false = refl

among-push : (text other : List ℕ) (others : List (List ℕ))
    → among text (others ++ other ∷ []) ≡ (among text others || bytes_eq text other)
among-push text other others = list_any-append (bytes_eq text) others (other ∷ [])
    ∙ ap (λ b. among text others || b) (or-false (bytes_eq text other))

without-push : (others : List (List ℕ)) (text : List ℕ) (texts : List (List ℕ))
    → without others (filter (λ other. not (bytes_eq text other)) texts) ≡ without (others ++ text ∷ []) texts
without-push others text texts = filter-filter (λ x. not (among x others)) (λ x. not (bytes_eq text x))
    (λ x. not (among x (others ++ text ∷ []))) texts
    (λ x. ap not (among-push x text others ∙ ap (λ b. among x others || b) (nat_list_eq_equiv.symm x text))
    ∙ by_tests (among x others) (bytes_eq text x))
  where
    by_tests : (a b : Bool) → not (a || b) ≡ (not b && not a)
    by_tests true true = refl
    by_tests true false = refl
    by_tests false true = refl
    by_tests false false = refl

-- a text that stands among others needn't be left out of what is without them
without-there : (others : List (List ℕ)) (text : List ℕ) (texts : List (List ℕ)) → among text others ≡ true
    → without others (filter (λ other. not (bytes_eq text other)) texts) ≡ without others texts
without-there others text texts there = filter-filter (λ x. not (among x others)) (λ x. not (bytes_eq text x))
    (λ x. not (among x others)) texts (λ x. by_test x (bytes_eq text x) refl)
  where
    by_test : (x : List ℕ) (b : Bool) → bytes_eq text x ≡ b → not (among x others) ≡ (not b && not (among x others))
    by_test x true same = rw (sym (list_any_congr nat_list_eq_equiv text x others same) ∙ there) refl
    by_test x false other = refl

-- what is put behind others is what doesn't stand among them, without repeats
pub behind-others : (others texts : List (List ℕ)) → insert_all bytes_eq others texts ≡ others
    ++ without others (once texts)
behind-others others [] = sym (append-nil others)
behind-others others (text ∷ texts) = by_test (λ xs. behind-others xs texts) (among text others) refl
  where
    by_test : ((xs : List (List ℕ)) → insert_all bytes_eq xs texts ≡ xs ++ without xs (once texts)) → (b : Bool)
        → among text others ≡ b → insert_all bytes_eq (cond b others (others ++ text ∷ [])) texts ≡ others
        ++ cond (not b) (text ∷ without others (filter (λ other. not (bytes_eq text other)) (once texts)))
        (without others (filter (λ other. not (bytes_eq text other)) (once texts)))
    by_test rest true there = rest others ∙ ap (λ xs. others ++ xs) (sym (without-there others text (once texts) there))
    by_test rest false new =
        rest (others ++ text ∷ [])
        ∙ append_assoc others (text ∷ []) (without (others ++ text ∷ []) (once texts))
        ∙ ap (λ xs. others ++ text ∷ xs) (sym (without-push others text (once texts)))

pub insert_all-append : (others first second : List (List ℕ))
    → insert_all bytes_eq others (first ++ second) ≡ insert_all bytes_eq (insert_all bytes_eq others first) second
insert_all-append others [] second = refl
insert_all-append others (text ∷ first) second = insert_all-append (insert_key bytes_eq others text) first second

without-nothing : (texts : List (List ℕ)) → without [] texts ≡ texts
without-nothing [] = refl
without-nothing (text ∷ texts) = ap (λ xs. text ∷ xs) (without-nothing texts)

-- texts that are put in turn are those without repeats
pub once-is : (texts : List (List ℕ)) → insert_all bytes_eq [] texts ≡ once texts
once-is texts = behind-others [] texts ∙ without-nothing (once texts)

pub distinct-inserted : (others : List (List ℕ)) (text : List ℕ) → IsDistinct bytes_eq others
    → IsDistinct bytes_eq (insert_key bytes_eq others text)
distinct-inserted others text distinct = by_test (among text others) refl
  where
    by_test : (b : Bool) → among text others ≡ b → IsDistinct bytes_eq (cond b others (others ++ text ∷ []))
    by_test true there = distinct
    by_test false new = IsDistinct-push nat_list_eq_equiv others text distinct new

pub distinct-all : (others texts : List (List ℕ)) → IsDistinct bytes_eq others
    → IsDistinct bytes_eq (insert_all bytes_eq others texts)
distinct-all others [] distinct = distinct
distinct-all others (text ∷ texts) distinct =
    distinct-all (insert_key bytes_eq others text) texts (distinct-inserted others text distinct)
