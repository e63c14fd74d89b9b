-- Ranges: alternatives between `||`, each empty, two partial versions around `-`, or parts between spaces.
-- A `>>=` here is over results: it goes on with what a part gives, and ends by the first place that doesn't read.
use Rattle.std.specs.Prelude.{
  ℕ,
  zero,
  suc,
  if◌then◌else◌,
  List,
  [],
  ◌∷◌,
  ◌++◌,
  length,
  Option,
  Some,
  None,
  option_and_then,
  option_map,
  Result,
  Ok,
  Err,
  codes,
}
use Rattle.sugar_path.specs.Front.{after}
pub use Rattle.sugar_path.specs.Results.{◌>>=◌}
use Rattle.npm_req.specs.Comparators.{comparators}
use Rattle.npm_req.specs.Front.{after_all, is_space}
use Rattle.npm_req.specs.Part.{Reading, part}
use Rattle.npm_req.specs.Partial.{partial_of}
use Rattle.npm_req.specs.Word.{after_bars, after_word, ends_alternative, word}
use Rattle.npm_req.specs.declared.comparator.Comparator.{Comparator}
use Rattle.npm_req.specs.declared.comparator.Operator.TheVariants as op
use Rattle.npm_req.specs.declared.partial.Partial.{Partial}

-- the parts up to the end of the alternative, of which there are no more than bytes
abbrev pub parts_of : ℕ → List ℕ → Reading (List Comparator)
parts_of zero t = Ok ([], t)
parts_of (suc n) t =
    if ends_alternative t then Ok ([], t)
    else (part t >>= λ first.
    parts_of n (after_all is_space first.1) >>= λ others.
    Ok (first.0 ++ others.0, others.1))

-- where the second partial version of a form with `-` begins, from what follows the first: behind spaces, `-` and one
-- space or more
abbrev pub after_hyphen : List ℕ → Option (List ℕ)
after_hyphen t =
    option_map (after_all is_space) (option_and_then (after (codes " ")) (after (codes "-") (after_all is_space t)))

-- both ends of a form with `-`, where the second one is a partial version and ends the alternative
abbrev pub up_to : Partial → List ℕ → Option Partial → List ℕ → Reading (List Comparator)
up_to low t None rest = Err (length t)
up_to low t (Some high) rest =
    if ends_alternative rest then Ok (comparators op.AtLeast low ++ comparators op.AtMost high, rest) else Err
    (length rest)

-- a form with `-`, from its second partial version on: both ends belong to it
unfoldable pub hyphen_of : Partial → List ℕ → Reading (List Comparator)
hyphen_of low t = up_to low t (partial_of (word t)) (after_all is_space (after_word t))

-- an alternative, by what follows its hyphen and by its first partial version, if it has them
abbrev pub alternative_with : List ℕ → Option (List ℕ) → Option Partial → Reading (List Comparator)
alternative_with t (Some second) (Some low) = hyphen_of low second
alternative_with t second first = parts_of (length t) t

-- the alternative in front: what begins with a partial version, spaces, `-` and a space is a form with `-`; all else is
-- parts, or empty
unfoldable pub alternative : List ℕ → Reading (List Comparator)
alternative t =
    let from = after_all is_space t in
    alternative_with from (after_hyphen (after_word from)) (partial_of (word from))

-- the first alternative, and the others where a `||` follows it
abbrev pub and_others : List Comparator → Option (List ℕ) → (List ℕ → Result (List (List Comparator)) ℕ)
    → Result (List (List Comparator)) ℕ
and_others first None others = Ok (first ∷ [])
and_others first (Some rest) others = others rest >>= λ read. Ok (first ∷ read)

-- the alternatives of a range, of which there are no more than bytes and one
abbrev pub alternatives : ℕ → List ℕ → Result (List (List Comparator)) ℕ
alternatives zero t = alternative t >>= λ first. Ok (first.0 ∷ [])
alternatives (suc n) t = alternative t >>= λ first. and_others first.0 (after_bars first.1) (alternatives n)

-- a range
abbrev pub range : List ℕ → Result (List (List Comparator)) ℕ
range t = alternatives (length t) t
