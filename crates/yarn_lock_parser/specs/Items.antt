-- The lines of an entry that say one thing: its version, where it was found, and what its files hash to. Each is read
-- from behind the blanks that it begins with; a quote may open its key. A `do` here is over readings: it goes on with
-- what a reading gives, and gives nothing where one of them doesn't read.
use Rattle.std.specs.Prelude.{ℕ, List, [], ◌∷◌, Option, Some, codes}
use Rattle.std.specs.Option.{option_or}
use Rattle.yarn_lock_parser.specs.ByteSet.{is_version_byte, is_unquoted_byte}
use Rattle.sugar_path.specs.Front.{◌>>=◌, after}
use Rattle.yarn_lock_parser.specs.Front.{after_optional, after_blanks, after_line_end, run, some_run}

-- what follows a quote that may close a key, a `:` that may stand there, and blanks
abbrev pub at_value : List ℕ → Option (List ℕ)
at_value t = after_blanks (after_optional (58 ∷ []) (after_optional (34 ∷ []) t))

-- what follows one of two words
abbrev pub one_of : List ℕ → List ℕ → List ℕ → Option (List ℕ)
one_of word other t = option_or (after word t) (after other t)

-- the version, with or without quotes, up to the line's end
unfoldable pub version_at : List ℕ → Option (List ℕ × List ℕ)
version_at t = do
  end ← after (codes "version") (after_optional (34 ∷ []) t)
  value ← at_value end
  rest ← after_line_end (after_optional (34 ∷ []) (run is_version_byte (after_optional (34 ∷ []) value)).1)
  Some ((run is_version_byte (after_optional (34 ∷ []) value)).0, rest)

-- the checksum, which is all that stands before the next quote or line end
unfoldable pub integrity_at : List ℕ → Option (List ℕ × List ℕ)
integrity_at t = do
  end ← one_of (codes "checksum") (codes "integrity") (after_optional (34 ∷ []) t)
  value ← at_value end
  Some (run is_unquoted_byte (after_optional (34 ∷ []) value))

-- the resolution, between quotes, up to the line's end
unfoldable pub resolved_at : List ℕ → Option (List ℕ × List ℕ)
resolved_at t = do
  end ← one_of (codes "resolved") (codes "resolution") (after_optional (34 ∷ []) t)
  value ← at_value end
  quote ← after (34 ∷ []) value
  text ← some_run is_unquoted_byte quote
  closed ← after (34 ∷ []) text.1
  rest ← after_line_end closed
  Some (text.0, rest)
