-- What a pattern spans: the parts of a text, from one place to another, that its tree describes. Texts are lists of
-- characters, a place counts the characters before it.
use Prim.Native.Char.{code}
use Rattle.std.specs.Prelude.{
  ◌≡◌,
  ℕ,
  zero,
  suc,
  ◌+◌,
  ◌-◌,
  ◌≤◌,
  ◌<◌,
  ◌||◌,
  ◌&&◌,
  ◌==◌,
  Bool,
  true,
  false,
  not,
  nat_lt,
  nat_le,
  List,
  length,
  slice_index,
  Option,
  Some,
  None,
  ◌⊎◌,
  if◌then◌else◌,
}
use Rattle.std.specs.List.{list_any}
use Rattle.es_pattern.specs.Tree.{
  Tree,
  CharRange,
  nothing,
  one_of,
  text_start,
  text_end,
  word_boundary,
  sequence,
  choice,
  repetition,
  lookahead,
}

-- the one or the other, and not both
abbrev pub differs : Bool → Bool → Bool
differs a b = if a then not b else b

-- the character is in the range
abbrev pub is_within : ℕ → CharRange → Bool
is_within c range = nat_le range.first c && nat_le c range.last

-- the character is one of the ranges', or, negated, of none
abbrev pub fits : Bool → List CharRange → ℕ → Bool
fits negated ranges c = differs negated (list_any (is_within c) ranges)

-- an ASCII letter, a digit or `_`
abbrev pub is_word : ℕ → Bool
is_word c = nat_le (code "a") c && nat_le c (code "z") || nat_le (code "A") c && nat_le c (code "Z")
    || nat_le (code "0") c && nat_le c (code "9") || (c == code "_")

-- a character of a word stands before the place
abbrev pub is_word_before : List ℕ → ℕ → Bool
is_word_before text i = nat_lt 0 i && is_word (slice_index text (i - 1))

-- a character of a word stands at the place
abbrev pub is_word_at : List ℕ → ℕ → Bool
is_word_at text i = nat_lt i (length text) && is_word (slice_index text i)

-- a word begins or ends at the place: exactly one of its neighbours belongs to a word
abbrev pub is_boundary : List ℕ → ℕ → Bool
is_boundary text i = differs (is_word_before text i) (is_word_at text i)

-- a chain of that many links
abbrev pub Chain : (ℕ → ℕ → Type 0) → ℕ → ℕ → ℕ → Type 0
Chain R zero i j = i ≡ j
Chain R (suc n) i j = (x : ℕ) × R i x × Chain R n x j

-- a number is at most a bound, where there is one
abbrev pub IsUpTo : Option ℕ → ℕ → Type 0
IsUpTo None n = Unit {0}
IsUpTo (Some most) n = n ≤ most

-- the tree spans the part of the text from place i to place j
abbrev pub Spans : Tree → List ℕ → ℕ → ℕ → Type 0
Spans nothing text i j = i ≡ j
Spans (one_of negated ranges) text i j =
    (i < length text) × (j ≡ i + 1) × (fits negated ranges (slice_index text i) ≡ true)
Spans text_start text i j = (i ≡ j) × (i ≡ 0)
Spans text_end text i j = (i ≡ j) × (i ≡ length text)
Spans (word_boundary negated) text i j = (i ≡ j) × (is_boundary text i ≡ not negated)
Spans (sequence a b) text i j = (x : ℕ) × Spans a text i x × Spans b text x j
Spans (choice a b) text i j = Spans a text i j ⊎ Spans b text i j
-- A repetition is a chain, whose links may be empty. Whether it is greedy or lazy makes no difference to what it can
-- span.
Spans (repetition least most a) text i j = (n : ℕ) × (least ≤ n) × IsUpTo most n × Chain (Spans a text) n i j
Spans (lookahead false a) text i j = (i ≡ j) × ((x : ℕ) × Spans a text i x)
Spans (lookahead true a) text i j = (i ≡ j) × ((x : ℕ) → Spans a text i x → ⊥)

-- wherever it begins and ends, a part of the text is spanned; it may be empty
abbrev pub IsFound : Tree → List ℕ → Type 0
IsFound tree text = (i : ℕ) × (j : ℕ) × (i ≤ length text) × Spans tree text i j
