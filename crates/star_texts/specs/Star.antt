-- What a `*` stands for in a text, as in the keys and targets of a package's `exports` (Node's package entry points).
-- Texts are lists of bytes.
use Prim.Native.Char.{code}
use Rattle.std.specs.Prelude.{
  ℕ,
  ◌+◌,
  ◌-◌,
  ◌==◌,
  Bool,
  bytes_eq,
  List,
  [],
  ◌∷◌,
  ◌++◌,
  length,
  take,
  drop,
  position,
  flat_map,
  Option,
  Some,
  None,
  option_map,
  option_and_then,
  if◌then◌else◌,
}
use Rattle.std.specs.List.{list_any}

-- the byte is a `*`
abbrev pub is_star : ℕ → Bool
is_star b = b == code "*"

-- a `*` stands in the text
abbrev pub has_star : List ℕ → Bool
has_star text = list_any is_star text

-- what stands before the first `*` of a text, and what stands behind it
abbrev pub around_star : List ℕ → Option (List ℕ × List ℕ)
around_star text = option_map (λ at. (take at text, drop (at + 1) text)) (position is_star text)

-- the parts around the first `*`, where no other stands behind it
abbrev pub unless_another : List ℕ × List ℕ → Option (List ℕ × List ℕ)
unless_another parts = if has_star parts.1 then None else Some parts

-- what stands before and behind the `*` of a text that holds exactly one
abbrev pub around_only_star : List ℕ → Option (List ℕ × List ℕ)
around_only_star text = option_and_then unless_another (around_star text)

-- a text without as many bytes at its front and at its end as two others have
abbrev pub without_ends : List ℕ → List ℕ → List ℕ → List ℕ
without_ends text before behind = take (length text - (length before + length behind)) (drop (length before) text)

-- what stands between one text at the front and another at the end, where the text begins and ends so and the two don't
-- overlap
abbrev pub rest_between : List ℕ → List ℕ → List ℕ → Option (List ℕ)
rest_between text before behind =
    if bytes_eq text (before ++ (without_ends text before behind ++ behind)) then Some (without_ends text before behind)
    else None

-- a text with another in place of each `*`
abbrev pub replaced : List ℕ → List ℕ → List ℕ
replaced text rest = flat_map (λ b. if is_star b then rest else (b ∷ [])) text
