-- The counts of a project's outcomes.
use Rattle.std.specs.Prelude.{
  ◌≡◌,
  ◌+◌,
  ℕ,
  Bool,
  true,
  false,
  if◌then◌else◌,
  List,
  [],
  ◌∷◌,
  ◌++◌,
  length,
  count_by,
  sum_by,
  map,
  codes,
  decimal,
}
use Rattle.resolve_stack.specs.declared.verdict.Outcome.{Outcome}
use Rattle.resolve_stack.specs.declared.verdict.Verdict.{Verdict}
use Rattle.resolve_stack.specs.declared.verdict.Verdict.TheVariants.{Answered, Refused}
use Rattle.document_core.specs.Outcomes.{outcome_on}
use Rattle.generated_project.specs.declared.counts.Counts.{Counts}
use Rattle.generated_project.specs.Generated.{generated_tree, generated_requests, generated_settings}

abbrev pub is_answered : Verdict → Bool
is_answered (Answered answer) = true
is_answered (Refused refusal) = false

abbrev pub is_refused : Verdict → Bool
is_refused (Answered answer) = false
is_refused (Refused refusal) = true

abbrev pub one_if : Bool → ℕ
one_if b = if b then 1 else 0

-- how many there are, how many are answered and how many refused, and how many questions their trails have together
abbrev pub counts_of : List Outcome → Counts
counts_of outcomes = record {
  requests = length outcomes;
  answered = count_by (λ o. is_answered o.verdict) outcomes;
  refused = count_by (λ o. is_refused o.verdict) outcomes;
  questions = sum_by (λ o. length o.trail) outcomes;
}

-- a number behind a word
abbrev pub counted : List ℕ → ℕ → List ℕ
counted word n = word ++ decimal n

-- the line of counts
abbrev pub line_of_counts : Counts → List ℕ
line_of_counts counts =
    counted (codes "requests ") counts.requests ++ counted (codes " answered ") counts.answered
    ++ counted (codes " refused ") counts.refused ++ counted (codes " questions ") counts.questions
    ++ 10 ∷ []

-- the outcomes of the requests of the project of a size, on the tree of its files
abbrev pub generated_outcomes : ℕ → List Outcome
generated_outcomes size =
    map (outcome_on (generated_tree size) generated_settings) (generated_requests size)

-- the line of their counts
unfoldable pub generated_line : ℕ → List ℕ
generated_line size = line_of_counts (counts_of (generated_outcomes size))

-- counts with one outcome more
abbrev pub IsWithOutcome : Counts → Outcome → Counts → Type 0
IsWithOutcome counts outcome more = more ≡ record {
  requests = counts.requests + 1;
  answered = counts.answered + one_if (is_answered outcome.verdict);
  refused = counts.refused + one_if (is_refused outcome.verdict);
  questions = counts.questions + length outcome.trail;
}
