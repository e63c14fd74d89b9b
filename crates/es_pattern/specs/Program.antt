-- A program that walks over a text, and what it means that one walks as a relation says. Contracts of private functions
-- alone cite it.
use Rattle.std.specs.Prelude.{
  ◌≡◌,
  ℕ,
  zero,
  suc,
  ◌+◌,
  ◌≤◌,
  Bool,
  true,
  List,
  [],
  ◌∷◌,
  ◌++◌,
  ◌⊎◌,
  length,
  slice_get,
  Option,
  Some,
  None,
}
use Rattle.es_pattern.specs.declared.step.Direction.{Direction}
use Rattle.es_pattern.specs.declared.step.Direction.TheVariants.{Forward, Backward}
use Rattle.es_pattern.specs.declared.step.Step.{Step}
use Rattle.es_pattern.specs.declared.step.Step.TheVariants.{Pass, Fork, Jump, Back}

-- from a step at a place of the text to the next step at its place
abbrev pub Does : (ℕ → ℕ → ℕ → Type 0) → Step → ℕ → ℕ → ℕ → ℕ → Type 0
Does passes (Pass number) at i next j = (next ≡ suc at) × passes number i j
Does passes (Fork by) at i next j = ((next ≡ suc at) ⊎ (next ≡ at + by)) × (j ≡ i)
Does passes (Jump by) at i next j = (next ≡ at + by) × (j ≡ i)
Does passes (Back by) at i next j = (next + by ≡ at) × (j ≡ i)

-- from a step of a program, at a place of the text, to the next step at its place
pub record Goes (passes : ℕ → ℕ → ℕ → Type 0) (program : List Step) (at i next j : ℕ) : Type 0 where
  pub step : Step
  pub stands : slice_get program at ≡ Some step
  pub does : Does passes step at i next j

-- in that many steps to the program's end, at the place `goal`
abbrev pub Runs : (ℕ → ℕ → ℕ → Type 0) → ℕ → List Step → ℕ → ℕ → ℕ → Type 0
Runs passes goal program zero at i = (at ≡ length program) × (i ≡ goal)
Runs passes goal program (suc n) at i =
    (next : ℕ) × (j : ℕ) × Goes passes program at i next j × Runs passes goal program n next j

-- in that many steps from the program's start, at a place where walks begin, to a step at a place
abbrev pub Comes : (ℕ → ℕ → ℕ → Type 0) → (ℕ → Bool) → List Step → ℕ → ℕ → ℕ → Type 0
Comes passes begins program zero at i = (at ≡ 0) × (begins i ≡ true)
Comes passes begins program (suc n) at i =
    (before : ℕ) × (j : ℕ) × Comes passes begins program n before j × Goes passes program before j at i

-- the step is alive at the place: a walk from some beginning comes to it there
abbrev pub IsAlive : (ℕ → ℕ → ℕ → Type 0) → (ℕ → Bool) → List Step → ℕ → ℕ → Type 0
IsAlive passes begins program at i = (n : ℕ) × Comes passes begins program n at i

-- a relation between places, as a walk in that direction comes to them
abbrev pub Mirror : Direction → (ℕ → ℕ → Type 0) → ℕ → ℕ → Type 0
Mirror Forward R i j = R i j
Mirror Backward R i j = R j i

-- these steps stand at the place in the program
abbrev pub Stands : List Step → ℕ → List Step → Type 0
Stands program at [] = at ≤ length program
Stands program at (s ∷ steps) = (slice_get program at ≡ Some s) × Stands program (suc at) steps

-- wherever the steps stand, they lead from one place to another just as the relation says
pub record Walks (passes : ℕ → ℕ → ℕ → Type 0) (goal : ℕ) (steps : List Step) (R : ℕ → ℕ → Type 0) : Type 0 where
  pub enters : (program : List Step) (at : ℕ) → Stands program at steps → (i j n : ℕ) → R i j
      → Runs passes goal program n (at + length steps) j → (m : ℕ) × Runs passes goal program m at i
  pub leaves : (program : List Step) (at : ℕ) → Stands program at steps → (i n : ℕ) → Runs passes goal program n at i
      → (j : ℕ) × (m : ℕ) × R i j × (m ≤ n) × Runs passes goal program m (at + length steps) j

-- the steps of one part and the other, as a walk in that direction comes to them
abbrev pub sequence_steps : Direction → List Step → List Step → List Step
sequence_steps Forward a b = a ++ b
sequence_steps Backward a b = b ++ a

-- the steps of one part or the other
abbrev pub choice_steps : List Step → List Step → List Step
choice_steps a b = Fork (length a + 2) ∷ (a ++ (Jump (length b + 1) ∷ b))

-- the steps of a part at most once
abbrev pub maybe_steps : List Step → List Step
maybe_steps a = Fork (length a + 1) ∷ a

-- the steps of a part any number of times
abbrev pub star_steps : List Step → List Step
star_steps a = Fork (length a + 2) ∷ (a ++ (Back (length a + 1) ∷ []))

-- the steps of a part at least once
abbrev pub plus_steps : List Step → List Step
plus_steps a = a ++ (Fork 2 ∷ Back (length a + 1) ∷ [])

-- the steps of a part that many times
abbrev pub copies : ℕ → List Step → List Step
copies zero a = []
copies (suc n) a = copies n a ++ a

-- the steps of a part at least so many times, and up to that many more; without a bound the last copy leads back
abbrev pub repetition_steps : ℕ → Option ℕ → List Step → List Step
repetition_steps least (Some more) a = copies least a ++ copies more (maybe_steps a)
repetition_steps zero None a = star_steps a
repetition_steps (suc before) None a = copies before a ++ plus_steps a
