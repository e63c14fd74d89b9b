-- The limits on a pattern's counts: each at most 1,000, and the product of those of nested quantifiers at most 100,000.
use Rattle.std.specs.Prelude.{ℕ, ◌*◌, ◌||◌, Bool, max, nat_lt, Option, unwrap_or}
use Rattle.es_pattern.specs.Tree.{
  Tree,
  nothing,
  one_of,
  text_start,
  text_end,
  word_boundary,
  sequence,
  choice,
  repetition,
  lookahead,
}

-- one of a quantifier's bounds is above the limit
abbrev pub is_above_limit : ℕ → Option ℕ → Bool
is_above_limit least most = nat_lt 1000 least || nat_lt 1000 (unwrap_or most least)

-- what a quantifier counts for in a product: its upper bound, or its only one, and at least 1
abbrev pub count_of : ℕ → Option ℕ → ℕ
count_of least most = max (unwrap_or most least) 1

-- the greatest product of the counts of nested quantifiers
abbrev pub product_of : Tree → ℕ
product_of nothing = 1
product_of (one_of negated ranges) = 1
product_of text_start = 1
product_of text_end = 1
product_of (word_boundary negated) = 1
product_of (sequence a b) = max (product_of a) (product_of b)
product_of (choice a b) = max (product_of a) (product_of b)
product_of (repetition least most a) = product_of a * count_of least most
product_of (lookahead negated a) = product_of a
