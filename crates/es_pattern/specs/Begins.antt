-- What a pattern may begin with at a place that isn't the text's start. Contracts of private functions alone cite it.
use Rattle.std.specs.Prelude.{
  ◌≡◌,
  ℕ,
  ◌<◌,
  ◌≤◌,
  ◌==◌,
  ◌&&◌,
  ◌||◌,
  nat_lt,
  nat_le,
  min,
  Bool,
  true,
  false,
  List,
  [],
  ◌∷◌,
  length,
  slice_get,
  Option,
  Some,
  None,
}
use Rattle.es_pattern.specs.Tree.{
  Tree,
  nothing,
  one_of,
  text_start,
  text_end,
  word_boundary,
  sequence,
  choice,
  repetition,
  lookahead,
}
use Rattle.es_pattern.specs.Spans.{fits}
use Rattle.es_pattern.specs.declared.piece.Piece.{Piece}
use Rattle.es_pattern.specs.declared.piece.Piece.TheVariants.{
  Nothing,
  OneOf,
  TextStart,
  TextEnd,
  WordBoundary,
  Sequence,
  Choice,
  Repetition,
  Lookahead,
}
use Rattle.es_pattern.specs.declared.begins.Begin.{Begin}

-- the tree may span the empty part there
abbrev pub may_stay : Tree → Bool
may_stay nothing = true
may_stay (one_of negated ranges) = false
may_stay text_start = false
may_stay text_end = true
may_stay (word_boundary negated) = true
may_stay (sequence a b) = may_stay a && may_stay b
may_stay (choice a b) = may_stay a || may_stay b
may_stay (repetition least most a) = (least == 0) || may_stay a
may_stay (lookahead negated a) = true

-- the tree may span a part there that begins with this character of ASCII, or, where the number is above those, with
-- some character
abbrev pub may_take : Tree → ℕ → Bool
may_take nothing c = false
may_take (one_of negated ranges) c = nat_lt 127 c || fits negated ranges c
may_take text_start c = false
may_take text_end c = false
may_take (word_boundary negated) c = false
may_take (sequence a b) c = may_take a c || (may_stay a && may_take b c)
may_take (choice a b) c = may_take a c || may_take b c
may_take (repetition least most a) c = may_take a c
may_take (lookahead negated a) c = false

-- what is kept of the tree that was built last
abbrev pub top_begin : List Begin → Begin
top_begin [] = record { stays = true; takes = false }
top_begin (b ∷ bs) = b

-- what is kept of the trees below the one that was built last
abbrev pub begins_below : List Begin → List Begin
begins_below [] = []
begins_below (b ∷ bs) = bs

-- what the parts may begin with, with a piece more
abbrev pub with_begin : ℕ → Piece → List Begin → List Begin
with_begin c Nothing bs = record { stays = true; takes = false } ∷ bs
with_begin c (OneOf negated ranges) bs =
    record { stays = false; takes = nat_lt 127 c || fits negated ranges.items c } ∷ bs
with_begin c TextStart bs = record { stays = false; takes = false } ∷ bs
with_begin c TextEnd bs = record { stays = true; takes = false } ∷ bs
with_begin c (WordBoundary negated) bs = record { stays = true; takes = false } ∷ bs
with_begin c Sequence bs =
    let a = top_begin (begins_below bs) in let b = top_begin bs in
    record { stays = a.stays && b.stays; takes = a.takes || (a.stays && b.takes) } ∷ begins_below (begins_below bs)
with_begin c Choice bs = let a = top_begin (begins_below bs) in let b = top_begin bs in
    record { stays = a.stays || b.stays; takes = a.takes || b.takes } ∷ begins_below (begins_below bs)
with_begin c (Repetition least more) bs =
    let a = top_begin bs in record { stays = (least == 0) || a.stays; takes = a.takes } ∷ begins_below bs
with_begin c (Lookahead negated) bs = record { stays = true; takes = false } ∷ begins_below bs

-- what the parts may begin with, with all these pieces more
abbrev pub with_begins : ℕ → List Piece → List Begin → List Begin
with_begins c [] bs = bs
with_begins c (p ∷ ps) bs = with_begins c ps (with_begin c p bs)

-- before what stands at a place of the text: a character of ASCII, or another, or the end
abbrev pub takes_at : (ℕ → Bool) → Option ℕ → Bool
takes_at takes None = false
takes_at takes (Some c) = takes (min c 128)

-- a walk may begin at a place of the text
abbrev pub may_begin : Tree → List ℕ → ℕ → Bool
may_begin tree text b =
    nat_le b (length text) && ((b == 0) || (may_stay tree || takes_at (may_take tree) (slice_get text b)))

-- no walk begins from the one place to before the other
abbrev pub NoneBegins : Tree → List ℕ → ℕ → ℕ → Type 0
NoneBegins tree text from to = (k : ℕ) → from ≤ k → k < to → may_begin tree text k ≡ false
