-- The tree that a pattern's pieces build. Each piece stands after the pieces that it joins.
use Rattle.std.specs.Prelude.{ℕ, suc, ◌+◌, List, [], ◌∷◌, option_map, take}
use Rattle.es_pattern.specs.Tree.{
  Tree,
  nothing,
  one_of,
  text_start,
  text_end,
  word_boundary,
  sequence,
  choice,
  repetition,
  lookahead,
}
use Rattle.es_pattern.specs.declared.piece.Piece.{Piece}
use Rattle.es_pattern.specs.declared.piece.Piece.TheVariants.{
  Nothing,
  OneOf,
  TextStart,
  TextEnd,
  WordBoundary,
  Sequence,
  Choice,
  Repetition,
  Lookahead,
}

-- the tree that was built last
abbrev pub top : List Tree → Tree
top [] = nothing
top (t ∷ ts) = t

-- the trees below the one that was built last
abbrev pub below : List Tree → List Tree
below [] = []
below (t ∷ ts) = ts

-- the trees with a piece more, the last one first
abbrev pub with_piece : Piece → List Tree → List Tree
with_piece Nothing ts = nothing ∷ ts
with_piece (OneOf negated ranges) ts = one_of negated ranges.items ∷ ts
with_piece TextStart ts = text_start ∷ ts
with_piece TextEnd ts = text_end ∷ ts
with_piece (WordBoundary negated) ts = word_boundary negated ∷ ts
with_piece Sequence ts = sequence (top (below ts)) (top ts) ∷ below (below ts)
with_piece Choice ts = choice (top (below ts)) (top ts) ∷ below (below ts)
with_piece (Repetition least more) ts = repetition least (option_map (λ n. least + n) more) (top ts) ∷ below ts
with_piece (Lookahead negated) ts = lookahead negated (top ts) ∷ below ts

-- the trees with all these pieces more
abbrev pub with_pieces : List Piece → List Tree → List Tree
with_pieces [] ts = ts
with_pieces (p ∷ ps) ts = with_pieces ps (with_piece p ts)

-- the tree of a whole pattern
abbrev pub tree_of : List Piece → Tree
tree_of pieces = top (with_pieces pieces [])

-- the tree that the piece of that number completes
abbrev pub tree_at : List Piece → ℕ → Tree
tree_at pieces number = top (with_pieces (take (suc number) pieces) [])
