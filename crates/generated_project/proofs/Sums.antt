-- Counts of outcomes, one behind the other.
use Rattle.std.proofs.Common.{
  ◌≡◌,
  ℕ,
  ◌+◌,
  ◌<◌,
  Bool,
  true,
  false,
  List,
  [],
  ◌∷◌,
  ◌++◌,
  length,
  take,
  get_or,
  count_by,
  sum_by,
  map,
  refl,
  sym,
  ap,
  ◌∙◌,
  subst,
  arith,
}
use Rattle.std.proofs.lemmas.List.{length_push, map-append, take_more}
use Rattle.std.proofs.lemmas.List.Sums.{sum_by-append}
use Rattle.resolve_stack.specs.declared.verdict.Outcome.{Outcome}
use Rattle.generated_project.specs.Counts.{counts_of, is_answered, is_refused, one_if, IsWithOutcome}
use Rattle.generated_project.specs.declared.counts.Counts.{Counts}

sum_push : (f : Outcome → ℕ) (outcomes : List Outcome) (o : Outcome)
    → sum_by f (outcomes ++ o ∷ []) ≡ sum_by f outcomes + f o
sum_push f outcomes o =
    let one : sum_by f (o ∷ []) ≡ f o = omega arith in
    sum_by-append f outcomes (o ∷ []) ∙ ap (λ n. sum_by f outcomes + n) one

count_push : (p : Outcome → Bool) (outcomes : List Outcome) (o : Outcome)
    → count_by p (outcomes ++ o ∷ []) ≡ count_by p outcomes + one_if (p o)
count_push p outcomes o = sum_push (λ x. one_if (p x)) outcomes o

-- the counts of some outcomes with one more are those of all of them
pub counts_push : (outcomes : List Outcome) (o : Outcome) (before more : Counts) → before ≡ counts_of outcomes
    → IsWithOutcome before o more → more ≡ counts_of (outcomes ++ o ∷ [])
counts_push outcomes o before more is added =
    let P : Counts → Type 0 = λ c. IsWithOutcome c o more in
    let whole : IsWithOutcome (counts_of outcomes) o more = subst P is added in
    let requests = sym (length_push outcomes o) in
    let answered = sym (count_push (λ x. is_answered x.verdict) outcomes o) in
    let refused = sym (count_push (λ x. is_refused x.verdict) outcomes o) in
    let questions = sym (sum_push (λ x. length x.trail) outcomes o) in
    whole ∙ (λ i. record { requests = requests i; answered = answered i; refused = refused i; questions = questions i })

-- one element more of a list
pub map_more : {X : Type 0} (f : X → Outcome) (xs : List X) (i : ℕ) (x : X) → i < length xs → x ≡ get_or xs i x
    → map f (take i xs) ++ f x ∷ [] ≡ map f (take (i + 1) xs)
map_more f xs i x lt is =
    sym (map-append f (take i xs) (x ∷ []))
    ∙ ap (λ y. map f (take i xs ++ y ∷ [])) is
    ∙ ap (map f) (sym (take_more xs i x lt))
