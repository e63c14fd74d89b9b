-- What a specifier's text tells before any file is asked for.
use Rattle.std.specs.Prelude.{ℕ, Bool, not, ◌&&◌, ◌||◌, List, [], ◌∷◌, ◌++◌, nat_eq, bytes_eq, codes}
use Rattle.std.specs.List.{starts_with}
use Rattle.sugar_path.specs.Path.{is_absolute}

-- the first component of a text is this one
abbrev pub begins_in : List ℕ → List ℕ → Bool
begins_in t component = bytes_eq t component || starts_with nat_eq t (component ++ 47 ∷ [])

-- a text whose first component is `.` or `..`
abbrev pub is_relative : List ℕ → Bool
is_relative t = begins_in t (codes ".") || begins_in t (codes "..")

-- a specifier is bare where it is neither absolute nor relative: it may name a package. The empty text is bare
abbrev pub is_bare : List ℕ → Bool
is_bare t = not (is_absolute t) && not (is_relative t)

-- Node's scheme
abbrev pub has_node_scheme : List ℕ → Bool
has_node_scheme t = starts_with nat_eq t (codes "node:")
