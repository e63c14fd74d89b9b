-- The programs of a pattern's parts: the program of the part that was built last, and of those before it. Contracts of
-- private functions alone cite it.
use Rattle.std.specs.Prelude.{◌≡◌, ℕ, suc, ◌≤◌, Bool, List, [], ◌∷◌, map, reverse, slice_get, Some, take}
use Rattle.std.specs.Global.{Vec, Global}
use Rattle.std.specs.declared.collections.VecDeque.{VecDeque}
use Rattle.es_pattern.specs.declared.step.Step.{Step}
use Rattle.es_pattern.specs.declared.step.Step.TheVariants.{Pass}
use Rattle.es_pattern.specs.declared.step.Direction.{Direction}
use Rattle.es_pattern.specs.declared.step.Direction.TheVariants.{Forward, Backward}
use Rattle.es_pattern.specs.declared.piece.Piece.{Piece}
use Rattle.es_pattern.specs.declared.piece.Piece.TheVariants.{
  Nothing,
  OneOf,
  TextStart,
  TextEnd,
  WordBoundary,
  Sequence,
  Choice,
  Repetition,
  Lookahead,
}
use Rattle.es_pattern.specs.declared.compile.Program.{Program}
use Rattle.es_pattern.specs.Program.{sequence_steps, choice_steps, repetition_steps}
use Rattle.es_pattern.specs.Passing.{AllClassed}
use Rattle.es_pattern.specs.Pieces.{tree_of}
use Rattle.es_pattern.specs.Begins.{may_take, may_stay}

-- the programs, the last one first
abbrev pub stack_of : List (VecDeque Step Global) → List (List Step)
stack_of programs = reverse (map (λ p. p.items) programs)

-- the program that was built last
abbrev pub top_code : List (List Step) → List Step
top_code [] = []
top_code (c ∷ cs) = c

-- the programs below the one that was built last
abbrev pub code_below : List (List Step) → List (List Step)
code_below [] = []
code_below (c ∷ cs) = cs

-- the programs with a piece more
abbrev pub with_code : Direction → Piece → ℕ → List (List Step) → List (List Step)
with_code d Nothing number cs = [] ∷ cs
with_code d (OneOf negated ranges) number cs = (Pass number ∷ []) ∷ cs
with_code d TextStart number cs = (Pass number ∷ []) ∷ cs
with_code d TextEnd number cs = (Pass number ∷ []) ∷ cs
with_code d (WordBoundary negated) number cs = (Pass number ∷ []) ∷ cs
with_code d Sequence number cs = sequence_steps d (top_code (code_below cs)) (top_code cs) ∷ code_below (code_below cs)
with_code d Choice number cs = choice_steps (top_code (code_below cs)) (top_code cs) ∷ code_below (code_below cs)
with_code d (Repetition least more) number cs = repetition_steps least more (top_code cs) ∷ code_below cs
with_code d (Lookahead negated) number cs = (Pass number ∷ []) ∷ code_below cs

-- the programs of the pieces, which count from that number on
abbrev pub codes_from : Direction → ℕ → List Piece → List (List Step) → List (List Step)
codes_from d number [] cs = cs
codes_from d number (p ∷ ps) cs = codes_from d (suc number) ps (with_code d p number cs)

-- the programs of all the pieces
abbrev pub codes : Direction → List Piece → List (List Step)
codes d pieces = codes_from d 0 pieces []

-- the program of the whole
abbrev pub steps_of : Direction → List Piece → List Step
steps_of d pieces = top_code (codes d pieces)

-- the program of the part of the lookahead of that number
abbrev pub part_steps : Direction → List Piece → ℕ → List Step
part_steps d pieces number = steps_of d (take number pieces)

-- each lookahead's part has its program, backward
abbrev pub AllParts : List Piece → List (Vec Step) → Type 0
AllParts pieces lookaheads = (number : ℕ) (negated : Bool) → slice_get pieces number ≡ Some (Lookahead negated)
    → (steps : Vec Step) × (slice_get lookaheads number ≡ Some steps)
    × (steps.items ≡ part_steps Backward pieces number)

-- a program is that of the pieces
pub record IsProgramOf (pieces : List Piece) (program : Program) : Type 0 where
  pub steps : program.steps.items ≡ steps_of Forward pieces
  pub lookaheads : AllParts pieces program.lookaheads.items
  pub classes : AllClassed pieces program.classes.items
  pub begins : (c : ℕ) → c ≤ 128 → slice_get program.begins.items c ≡ Some (may_take (tree_of pieces) c)
  pub stays : program.may_stay ≡ may_stay (tree_of pieces)
