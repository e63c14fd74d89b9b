-- The JSON text inside a manifest's program file.
use Rattle.std.specs.Prelude.{
  ℕ,
  Bool,
  ◌==◌,
  ◌||◌,
  if◌then◌else◌,
  List,
  [],
  ◌∷◌,
  Option,
  Some,
  None,
  option_map,
  option_and_then,
  codes,
}
use Rattle.std.specs.Option.{option_or}
use Rattle.sugar_path.specs.Front.{after}

-- a space, a carriage return or a line feed
abbrev pub is_blank : ℕ → Bool
is_blank c = c == 32 || c == 13 || c == 10

abbrev pub after_blanks : List ℕ → List ℕ
after_blanks [] = []
after_blanks (c ∷ cs) = if is_blank c then after_blanks cs else c ∷ cs

-- what follows a blank
abbrev pub after_blank : List ℕ → Option (List ℕ)
after_blank [] = None
after_blank (c ∷ cs) = if is_blank c then Some cs else None

-- one blank or more
abbrev pub after_some_blanks : List ℕ → Option (List ℕ)
after_some_blanks t = option_map after_blanks (after_blank t)

-- what follows a text that is there, and then the blanks
abbrev pub then_word : List ℕ → List ℕ → Option (List ℕ)
then_word word t = after word (after_blanks t)

-- `const`, blanks, `RAW_RUNTIME_STATE`, `=` and `'`, with any blanks before the last two
unfoldable pub after_constant : List ℕ → Option (List ℕ)
after_constant t =
    option_and_then (then_word (codes "'"))
    (option_and_then (then_word (codes "="))
    (option_and_then (after (codes "RAW_RUNTIME_STATE"))
    (option_and_then after_some_blanks (after (codes "const") t))))

unfoldable pub after_call : List ℕ → Option (List ℕ)
after_call t = after (codes "hydrateRuntimeState(JSON.parse('") t

-- what follows one of the two openings, where the text begins with it
abbrev pub after_opening : List ℕ → Option (List ℕ)
after_opening t = option_or (after_constant t) (after_call t)

-- what follows the leftmost opening
abbrev pub after_leftmost : List ℕ → Option (List ℕ)
after_leftmost [] = None
after_leftmost (c ∷ cs) = option_or (after_opening (c ∷ cs)) (after_leftmost cs)

-- up to the next `'` that no backslash takes, or to the end: a backslash is dropped, and the character after it is kept
abbrev mutual
  pub quoted : List ℕ → List ℕ
  quoted [] = []
  quoted (c ∷ cs) = if c == 39 then [] else (if c == 92 then kept cs else c ∷ quoted cs)

  pub kept : List ℕ → List ℕ
  kept [] = []
  kept (c ∷ cs) = c ∷ quoted cs

-- the payload of a manifest's text
abbrev pub payload : List ℕ → Option (List ℕ)
payload t = option_map quoted (after_leftmost t)
