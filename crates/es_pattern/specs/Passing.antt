-- What a single piece of a pattern spans, on a walk in either direction, and what a table tells of it. Contracts of
-- private functions alone cite it.
use Rattle.std.specs.Prelude.{
  ◌≡◌,
  ℕ,
  zero,
  suc,
  ◌+◌,
  ◌-◌,
  ◌<◌,
  ◌≤◌,
  Bool,
  true,
  false,
  List,
  [],
  ◌∷◌,
  length,
  slice_get,
  Option,
  Some,
  None,
  MatchBool,
  if◌then◌else◌,
}
use Rattle.std.specs.Global.{Vec}
use Rattle.es_pattern.specs.Spans.{Spans, fits}
use Rattle.es_pattern.specs.Tree.{CharRange}
use Rattle.es_pattern.specs.Pieces.{tree_at}
use Rattle.es_pattern.specs.Program.{Mirror}
use Rattle.es_pattern.specs.declared.step.Step.{Step}
use Rattle.es_pattern.specs.declared.step.Step.TheVariants.{Pass}
use Rattle.es_pattern.specs.declared.step.Direction.{Direction}
use Rattle.es_pattern.specs.declared.step.Direction.TheVariants.{Forward, Backward}
use Rattle.es_pattern.specs.declared.alive.Passing.{Passing}
use Rattle.es_pattern.specs.declared.alive.Passing.TheVariants.{Stops, Stays, Moves}
use Rattle.es_pattern.specs.declared.piece.Piece.{Piece}
use Rattle.es_pattern.specs.declared.piece.Piece.TheVariants.{
  Nothing,
  OneOf,
  TextStart,
  TextEnd,
  WordBoundary,
  Sequence,
  Choice,
  Repetition,
  Lookahead,
}

-- a piece that spans a character, or the empty part, by itself
abbrev pub IsSingle : Piece → Type 0
IsSingle Nothing = ⊥
IsSingle (OneOf negated ranges) = Unit {0}
IsSingle TextStart = Unit {0}
IsSingle TextEnd = Unit {0}
IsSingle (WordBoundary negated) = Unit {0}
IsSingle Sequence = ⊥
IsSingle Choice = ⊥
IsSingle (Repetition least more) = ⊥
IsSingle (Lookahead negated) = Unit {0}

-- the piece of that number is single, and spans this part of the text
pub record PassesPiece (pieces : List Piece) (text : List ℕ) (number i j : ℕ) : Type 0 where
  pub piece : Piece
  pub stands : slice_get pieces number ≡ Some piece
  pub single : IsSingle piece
  pub spans : Spans (tree_at pieces number) text i j

-- a walk in that direction passes the piece of that number from one place to another
abbrev pub Passes : Direction → List Piece → List ℕ → ℕ → ℕ → ℕ → Type 0
Passes direction pieces text number i j = Mirror direction (PassesPiece pieces text number) i j

-- the next place in that direction
abbrev pub After : Direction → ℕ → ℕ → Type 0
After Forward i j = j ≡ i + 1
After Backward i j = i ≡ j + 1

-- all that the piece of that number does at a place
abbrev pub PassesAs : Direction → List Piece → List ℕ → ℕ → ℕ → Passing → Type 0
PassesAs direction pieces text number i Stops = (j : ℕ) → Passes direction pieces text number i j → ⊥
PassesAs direction pieces text number i Stays =
    Passes direction pieces text number i i × ((j : ℕ) → Passes direction pieces text number i j → j ≡ i)
PassesAs direction pieces text number i Moves = (next : ℕ) × After direction i next × (next ≤ length text)
    × Passes direction pieces text number i next × ((j : ℕ) → Passes direction pieces text number i j → j ≡ next)

-- what a piece does that spans the empty part, by whether it does so there
abbrev pub stays : Bool → Passing
stays true = Stays
stays false = Stops

-- what a class does before a character, or before none
abbrev pub class_passing : Bool → List CharRange → Option ℕ → Passing
class_passing negated ranges None = Stops
class_passing negated ranges (Some c) = if fits negated ranges c then Moves else Stops

-- what a lookahead's answer at a place says
abbrev pub Answers : List Piece → List ℕ → ℕ → ℕ → Bool → Type 0
Answers pieces text number i holds =
    MatchBool holds (Spans (tree_at pieces number) text i i) (Spans (tree_at pieces number) text i i → ⊥)

-- the table of a lookahead has, for each number of characters behind a place, whether the lookahead holds there
pub record Tells (pieces : List Piece) (text : List ℕ) (number : ℕ) (table : List Bool) : Type 0 where
  pub told : (k : ℕ) → k ≤ length text
      → (holds : Bool) × (slice_get table (length text - k) ≡ Some holds) × Answers pieces text number k holds

-- the lookahead of that number has its table
abbrev pub IsTold : List (Option (Vec Bool)) → ℕ → Type 0
IsTold tables number = (table : Vec Bool) × (slice_get tables number ≡ Some (Some table))

-- there is room for a table for each piece, and those of lookaheads tell
pub record AllTell (pieces : List Piece) (text : List ℕ) (tables : List (Option (Vec Bool))) : Type 0 where
  pub counted : length tables ≡ length pieces
  pub each : (number : ℕ) (negated : Bool) (table : Vec Bool) → slice_get pieces number ≡ Some (Lookahead negated)
      → slice_get tables number ≡ Some (Some table) → Tells pieces text number table.items

-- the piece of that number is a lookahead that isn't told yet
pub record IsUntold (pieces : List Piece) (tables : List (Option (Vec Bool))) (number : ℕ) : Type 0 where
  pub negated : Bool
  pub stands : slice_get pieces number ≡ Some (Lookahead negated)
  pub untold : slice_get tables number ≡ Some None

-- such a piece is passed by one of the steps
pub record IsAsked (pieces : List Piece) (tables : List (Option (Vec Bool))) (steps : List Step) (number : ℕ) : Type 0
  where
    pub at : ℕ
    pub passes : slice_get steps at ≡ Some (Pass number)
    pub untold : IsUntold pieces tables number

-- how many pieces have no table
abbrev pub untold_count : List (Option (Vec Bool)) → ℕ
untold_count [] = 0
untold_count (None ∷ tables) = suc (untold_count tables)
untold_count (Some table ∷ tables) = untold_count tables

-- the next character in that direction
abbrev pub ahead_of : Direction → List ℕ → ℕ → Option ℕ
ahead_of Forward text i = slice_get text i
ahead_of Backward text zero = None
ahead_of Backward text (suc i) = slice_get text i

-- the class of each piece has, for each character of ASCII, whether it fits
abbrev pub AllClassed : List Piece → List (Vec Bool) → Type 0
AllClassed pieces classes = (number c : ℕ) (negated : Bool) (ranges : Vec CharRange) (class : Vec Bool)
    → slice_get pieces number ≡ Some (OneOf negated ranges) → slice_get classes number ≡ Some class → c < 128
    → slice_get class.items c ≡ Some (fits negated ranges.items c)
