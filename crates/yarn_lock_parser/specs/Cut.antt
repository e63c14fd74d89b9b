-- Where a text is cut: behind a line of only blanks.
use Rattle.std.specs.Prelude.{ℕ, ◌==◌, if◌then◌else◌, List, [], ◌∷◌, Option, Some, None, unwrap_or}
use Rattle.std.specs.Option.{option_or}
use Rattle.yarn_lock_parser.specs.ByteSet.{is_blank}
use Rattle.yarn_lock_parser.specs.Front.{run, after_line_end, front, every}

-- what follows a line of only blanks
unfoldable pub after_empty_line : List ℕ → Option (List ℕ)
after_empty_line t = after_line_end (run is_blank t).1

-- what follows the first line of only blanks that begins behind a line feed
unfoldable pub after_later_empty_line : List ℕ → Option (List ℕ)
after_later_empty_line [] = None
after_later_empty_line (c ∷ cs) =
    if c == 10
    then option_or (after_empty_line cs) (after_later_empty_line cs)
    else after_later_empty_line cs

-- what follows the first line of only blanks, where a line begins at the front too
unfoldable pub after_first_empty_line : List ℕ → Option (List ℕ)
after_first_empty_line t = option_or (after_empty_line t) (after_later_empty_line t)

-- The text of an entry: the lines up to and including a line of only blanks, or all of a rest without such a line. No
-- entry begins where the text ends.
unfoldable pub entry_text : List ℕ → Option (List ℕ × List ℕ)
entry_text [] = None
entry_text (c ∷ cs) = Some (
  front (c ∷ cs) (unwrap_or (after_first_empty_line (c ∷ cs)) []),
  unwrap_or (after_first_empty_line (c ∷ cs)) [],
)

-- the texts of the entries, in order
abbrev pub entry_texts : List ℕ → List (List ℕ)
entry_texts t = (every entry_text t).0
