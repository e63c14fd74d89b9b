-- The words of a range: what stands up to a space, `||` or the end of the text.
use Rattle.std.specs.Prelude.{
  ℕ,
  Bool,
  true,
  ◌==◌,
  ◌||◌,
  if◌then◌else◌,
  List,
  [],
  ◌∷◌,
  Option,
  is_some,
  option_and_then,
  codes,
}
use Rattle.sugar_path.specs.Front.{after}

-- what follows `||`
abbrev pub after_bars : List ℕ → Option (List ℕ)
after_bars t = option_and_then (after (codes "|")) (after (codes "|") t)

-- whether an alternative ends where this text follows
abbrev pub ends_alternative : List ℕ → Bool
ends_alternative [] = true
ends_alternative (c ∷ cs) = is_some (after_bars (c ∷ cs))

-- whether a part ends where this text follows
abbrev pub ends_part : List ℕ → Bool
ends_part [] = true
ends_part (c ∷ cs) = c == 32 || is_some (after_bars (c ∷ cs))

-- what stands before the first place where a part ends
abbrev pub word : List ℕ → List ℕ
word [] = []
word (c ∷ cs) = if ends_part (c ∷ cs) then [] else c ∷ word cs

-- what follows the word in front
abbrev pub after_word : List ℕ → List ℕ
after_word [] = []
after_word (c ∷ cs) = if ends_part (c ∷ cs) then c ∷ cs else after_word cs
