-- The steps of a program that are alive at a place. Contracts of private functions alone cite it.
use Rattle.std.specs.Prelude.{
  ◌≡◌,
  ℕ,
  zero,
  suc,
  ◌+◌,
  ◌*◌,
  ◌-◌,
  ◌<◌,
  ◌≤◌,
  nat_le,
  Bool,
  true,
  false,
  List,
  [],
  ◌∷◌,
  ◌⊎◌,
  length,
  Contains,
  if◌then◌else◌,
}
use Rattle.es_pattern.specs.declared.step.Step.{Step}
use Rattle.es_pattern.specs.declared.step.Step.TheVariants.{Pass, Fork, Jump, Back}
use Rattle.es_pattern.specs.declared.step.Direction.{Direction}
use Rattle.es_pattern.specs.declared.step.Direction.TheVariants.{Forward}
use Rattle.es_pattern.specs.declared.alive.Passing.{Passing}
use Rattle.es_pattern.specs.declared.alive.Passing.TheVariants.{Stops, Stays, Moves}
use Rattle.es_pattern.specs.declared.alive.Alive.{Alive}
use Rattle.es_pattern.specs.declared.piece.Piece.{Piece}
use Rattle.es_pattern.specs.Program.{Goes, IsAlive}
use Rattle.es_pattern.specs.Passing.{After, Passes}
use Rattle.es_pattern.specs.NumberSet.{Has, has}

-- the step, if it stands in a program of that size or at its end
abbrev pub if_within : ℕ → ℕ → List ℕ
if_within size q = if nat_le q size then q ∷ [] else []

-- the next steps that stay at the place
abbrev pub same_place : Step → ℕ → ℕ → Passing → List ℕ
same_place (Pass number) at size Stops = []
same_place (Pass number) at size Stays = (at + 1) ∷ []
same_place (Pass number) at size Moves = []
same_place (Fork by) at size passing = (at + 1) ∷ if_within size (at + by)
same_place (Jump by) at size passing = if_within size (at + by)
same_place (Back by) at size passing = if nat_le by at then (at - by) ∷ [] else []

-- the next steps at the next place
abbrev pub next_place : Step → ℕ → Passing → List ℕ
next_place (Pass number) at Stops = []
next_place (Pass number) at Stays = []
next_place (Pass number) at Moves = (at + 1) ∷ []
next_place (Fork by) at passing = []
next_place (Jump by) at passing = []
next_place (Back by) at passing = []

-- What is so while the steps at a place are taken: those that wait and those that were taken are alive there, and the
-- next ones at the next place; a walk that begins there, or that comes from the place before, has its step among them;
-- and so does one that goes on from a step that was taken.
pub record Settling (direction : Direction) (passes : ℕ → ℕ → ℕ → Type 0) (begins : ℕ → Bool) (program : List Step)
    (place : ℕ) (waiting taken next : List ℕ) : Type 0 where
  pub waits_by : (q : ℕ) → Contains waiting q → IsAlive passes begins program q place
  pub taken_by : (q : ℕ) → Has taken q → IsAlive passes begins program q place
  pub comes_by : (q : ℕ) → Contains next q → (j : ℕ) × After direction place j × IsAlive passes begins program q j
  pub begun : begins place ≡ true → Contains waiting 0 ⊎ Has taken 0
  pub before : (at j q : ℕ) → IsAlive passes begins program at j → After direction j place
      → Goes passes program at j q place → q ≤ length program → Contains waiting q ⊎ Has taken q
  pub closed : (at q j : ℕ) → Has taken at → Goes passes program at place q j → q ≤ length program
      → ((j ≡ place) × (Contains waiting q ⊎ Has taken q)) ⊎ (After direction place j × Contains next q)

-- What is so where none waits any more: a step was taken exactly where it is alive, and what those go on to at the next
-- place is there.
pub record Settled (direction : Direction) (passes : ℕ → ℕ → ℕ → Type 0) (begins : ℕ → Bool) (program : List Step)
    (place : ℕ) (waiting taken next : List ℕ) : Type 0 where
  pub empty : waiting ≡ []
  pub taken_by : (q : ℕ) → Has taken q → IsAlive passes begins program q place
  pub alive : (q : ℕ) → IsAlive passes begins program q place → q ≤ length program → Has taken q
  pub comes_by : (q : ℕ) → Contains next q → (j : ℕ) × After direction place j × IsAlive passes begins program q j
  pub comes : (at j q : ℕ) → IsAlive passes begins program at place → After direction place j
      → Goes passes program at place q j → q ≤ length program → Contains next q

-- What is so when a place is come to, where no walk begins yet.
pub record Arrives (direction : Direction) (passes : ℕ → ℕ → ℕ → Type 0) (begins : ℕ → Bool) (program : List Step)
    (place : ℕ) (waiting taken next : List ℕ) : Type 0 where
  pub waits_by : (q : ℕ) → Contains waiting q → IsAlive passes begins program q place
  pub before : (at j q : ℕ) → IsAlive passes begins program at j → After direction j place
      → Goes passes program at j q place → q ≤ length program → Contains waiting q
  pub none_taken : (q : ℕ) → Has taken q → ⊥
  pub none_next : next ≡ []

-- from the one place to before the other nothing waits, and no walk begins
abbrev pub IsIdle : (ℕ → Bool) → Alive → ℕ → ℕ → Type 0
IsIdle begins alive from to = (k : ℕ) → from ≤ k → k < to → (alive.waiting.items ≡ []) × (begins k ≡ false)

-- the steps that are still to be taken, and what waits
abbrev pub untaken : List ℕ → ℕ → ℕ
untaken taken zero = 0
untaken taken (suc n) = (if has taken n then 0 else 3) + untaken taken n

-- the steps that are still to be taken, and those that wait
abbrev pub weight : ℕ → Alive → ℕ
weight size alive = untaken alive.taken.words.items (size + 1) + length alive.waiting.items

-- The steps that are still to be taken, and those of the next place, three for each: no step that is taken makes it
-- more. So there are never more at the next place than the program has.
abbrev pub crowd : ℕ → Alive → ℕ
crowd size alive = untaken alive.taken.words.items (size + 1) + 3 * length alive.next.items

-- what is so at a place, said of the sets of steps that the code keeps
abbrev pub SettlingBy : Direction → List Piece → List ℕ → (ℕ → Bool) → List Step → ℕ → Alive → Type 0
SettlingBy direction pieces text begins program place alive =
    Settling direction (Passes direction pieces text) begins program place alive.waiting.items alive.taken.words.items
    alive.next.items

-- none waits any more at the place, said of the sets of steps that the code keeps
abbrev pub SettledBy : Direction → List Piece → List ℕ → (ℕ → Bool) → List Step → ℕ → Alive → Type 0
SettledBy direction pieces text begins program place alive =
    Settled direction (Passes direction pieces text) begins program place alive.waiting.items alive.taken.words.items
    alive.next.items

-- the place is come to, said of the sets of steps that the code keeps
abbrev pub ArrivesBy : Direction → List Piece → List ℕ → (ℕ → Bool) → List Step → ℕ → Alive → Type 0
ArrivesBy direction pieces text begins program place alive =
    Arrives direction (Passes direction pieces text) begins program place alive.waiting.items alive.taken.words.items
    alive.next.items

-- The end was alive at the place just where that is told, and the next place is come to.
pub record PassedBy (pieces : List Piece) (text : List ℕ) (begins : ℕ → Bool) (program : List Step) (place : ℕ)
    (ended : Bool) (alive : Alive) : Type 0 where
  pub ends : ended ≡ true → IsAlive (Passes Forward pieces text) begins program (length program) place
  pub ends_not : ended ≡ false → IsAlive (Passes Forward pieces text) begins program (length program) place → ⊥
  pub arrives : ArrivesBy Forward pieces text begins program (place + 1) alive
