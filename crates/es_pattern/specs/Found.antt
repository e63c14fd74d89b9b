-- Whether a pattern is found in a text, as a function: by the places where the parts end that begin at a place.
use Rattle.std.specs.Prelude.{
  ℕ,
  zero,
  suc,
  ◌+◌,
  ◌-◌,
  ◌&&◌,
  ◌||◌,
  ◌==◌,
  Bool,
  true,
  false,
  nat_lt,
  nat_le,
  min,
  List,
  [],
  ◌∷◌,
  ◌++◌,
  length,
  slice_index,
  flat_map,
  Option,
  Some,
  None,
  if◌then◌else◌,
}
use Rattle.es_pattern.specs.Tree.{
  Tree,
  nothing,
  one_of,
  text_start,
  text_end,
  word_boundary,
  sequence,
  choice,
  repetition,
  lookahead,
}
use Rattle.es_pattern.specs.Spans.{differs, fits, is_boundary}

-- there is a place among them
abbrev pub has_place : List ℕ → Bool
has_place [] = false
has_place (j ∷ js) = true

-- the place itself, under a condition
abbrev pub place_if : Bool → ℕ → List ℕ
place_if here i = if here then i ∷ [] else []

-- where that many links lead from the places
abbrev pub after_links : (ℕ → List ℕ) → ℕ → List ℕ → List ℕ
after_links next zero places = places
after_links next (suc n) places = after_links next n (flat_map next places)

-- where at most that many links lead from the places
abbrev pub up_to_links : (ℕ → List ℕ) → ℕ → List ℕ → List ℕ
up_to_links next zero places = places
up_to_links next (suc n) places = places ++ up_to_links next n (flat_map next places)

-- where chains lead of so many links. Links that stay where they are can be left out, so behind the least number there
-- are no more than the text has characters.
abbrev pub repeated : (ℕ → List ℕ) → ℕ → ℕ → Option ℕ → ℕ → List ℕ
repeated next size least None i = up_to_links next size (after_links next least (i ∷ []))
repeated next size least (Some most) i =
    if nat_le least most then up_to_links next (min size (most - least)) (after_links next least (i ∷ []))
    else []

-- the places where the parts end that the tree spans from a place on
abbrev pub ends : Tree → List ℕ → ℕ → List ℕ
ends nothing text i = i ∷ []
ends (one_of negated ranges) text i =
    place_if (nat_lt i (length text) && fits negated ranges (slice_index text i)) (i + 1)
ends text_start text i = place_if (i == 0) i
ends text_end text i = place_if (i == length text) i
ends (word_boundary negated) text i = place_if (differs negated (is_boundary text i)) i
ends (sequence a b) text i = flat_map (ends b text) (ends a text i)
ends (choice a b) text i = ends a text i ++ ends b text i
ends (repetition least most a) text i = repeated (ends a text) (length text) least most i
ends (lookahead negated a) text i = place_if (differs negated (has_place (ends a text i))) i

-- some part begins at one of the places up to that one
abbrev pub begins_up_to : (ℕ → List ℕ) → ℕ → Bool
begins_up_to ends zero = has_place (ends zero)
begins_up_to ends (suc n) = has_place (ends (suc n)) || begins_up_to ends n

-- the tree is found in the text
unfoldable pub is_found : Tree → List ℕ → Bool
is_found tree text = begins_up_to (ends tree text) (length text)
