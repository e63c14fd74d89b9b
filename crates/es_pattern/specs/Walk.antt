-- A walk that stands at a place of a text. Contracts of private functions alone cite it.
use Rattle.std.specs.Prelude.{ℕ, ◌≤◌, Bool, List, length}
use Rattle.std.specs.Global.{Vec}
use Rattle.es_pattern.specs.declared.walk.Walk.{Walk}
use Rattle.es_pattern.specs.declared.alive.Alive.{Alive}
use Rattle.es_pattern.specs.declared.piece.Piece.{Piece}
use Rattle.es_pattern.specs.Passing.{AllClassed, AllTell, IsAsked}
use Rattle.es_pattern.specs.Alive.{SettledBy, SettlingBy}

-- steps can be taken at its place
pub record IsReady (pieces : List Piece) (text : List ℕ) (classes : List (Vec Bool)) (walk : Walk) : Type 0 where
  pub told : AllTell pieces text walk.tables.now
  pub classed : AllClassed pieces classes
  pub place : walk.place ≤ length text

-- the steps at its place, while they are taken and where none waits any more
abbrev pub SettlingOn : List Piece → List ℕ → (ℕ → Bool) → Walk → Alive → Type 0
SettlingOn pieces text begins walk alive = SettlingBy walk.direction pieces text begins walk.steps.now walk.place alive

-- the steps at its place, where none waits any more
abbrev pub SettledOn : List Piece → List ℕ → (ℕ → Bool) → Walk → Alive → Type 0
SettledOn pieces text begins walk alive = SettledBy walk.direction pieces text begins walk.steps.now walk.place alive

-- a lookahead that one of its steps passes, and that isn't told
abbrev pub IsAskedOn : List Piece → Walk → ℕ → Type 0
IsAskedOn pieces walk number = IsAsked pieces walk.tables.now walk.steps.now number
