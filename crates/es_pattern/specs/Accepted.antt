-- Which pattern a text is, as a function: its characters are read in order, up to the first that is refused.
use Rattle.std.specs.Prelude.{ℕ, ◌||◌, Bool, List, [], ◌∷◌, length, Option, Some, None, option_and_then, if◌then◌else◌}
use Rattle.es_pattern.specs.Tree.{Tree}
use Rattle.es_pattern.specs.Reading.{Reading, step, start, finished, overcounts_at}
use Rattle.es_pattern.specs.Refusals.{is_unsupported, is_too_deep}

-- the character and the rest begin a form that isn't supported or a group too deep, or the character ends a quantifier
-- that counts too much
abbrev pub is_refused : ℕ → List ℕ → Reading → Bool
is_refused c rest r =
    is_unsupported r.mode (c ∷ rest) || (is_too_deep (length r.groups) r.mode (c ∷ rest) || overcounts_at c r)

-- what the text is read as, where nothing in it is refused
abbrev pub reads_clear : List ℕ → Reading → Option Reading
reads_clear [] r = Some r
reads_clear (c ∷ cs) r = if is_refused c cs r then None else option_and_then (reads_clear cs) (step c r)

-- the tree of a text that is a pattern, where nothing in it is refused
unfoldable pub pattern_of : List ℕ → Option Tree
pattern_of text = option_and_then finished (reads_clear text start)
