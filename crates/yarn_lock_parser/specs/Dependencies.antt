-- The dependencies that an entry lists under a heading.
-- A `do` here is over readings: it goes on with what a reading gives, and gives nothing where one of them doesn't read.
use Rattle.std.specs.Prelude.{
  ℕ,
  Bool,
  ◌==◌,
  ◌&&◌,
  if◌then◌else◌,
  List,
  [],
  ◌∷◌,
  length,
  reverse,
  Option,
  Some,
  None,
  unwrap_or,
  is_some,
  is_none,
  codes,
}
use Rattle.std.specs.Option.{option_or}
use Rattle.yarn_lock_parser.specs.ByteSet.{is_blank, is_quote, is_no_line_end, is_name_byte}
use Rattle.sugar_path.specs.Front.{◌>>=◌, after}
use Rattle.yarn_lock_parser.specs.Front.{after_line_end, run, some_run, quoted_at, some}

-- which dependencies a heading names
pub data DependencyKind : Type 0 where
  Regular : DependencyKind
  Optional : DependencyKind
  Peer : DependencyKind

-- the blanks before what stands deeper than an indent: the indent, and one blank or more
unfoldable pub deeper : List ℕ → List ℕ → Option (List ℕ × List ℕ)
deeper indent t = do
  further ← after indent (run is_blank t).0
  if length further == 0 then None else Some (run is_blank t)

-- a text without the quotes at its end
unfoldable pub before_quotes : List ℕ → List ℕ
before_quotes t = reverse (run is_quote (reverse t)).1

-- a text without the quotes at both ends
abbrev pub trimmed : List ℕ → List ℕ
trimmed t = before_quotes (run is_quote t).1

-- a carriage return that no line feed follows
abbrev pub is_lone_return : List ℕ → Bool
is_lone_return t = is_some (after (13 ∷ []) t) && is_none (after (13 ∷ 10 ∷ []) t)

-- the rest of a line, where no carriage return stands in it
unfoldable pub line_rest : List ℕ → Option (List ℕ × List ℕ)
line_rest t = if is_lone_return (run is_no_line_end t).1 then None else Some (run is_no_line_end t)

-- the version, which is a quoted text, or else the rest of the line; a line end or blanks behind it are passed over
unfoldable pub dependency_version : List ℕ → Option (List ℕ × List ℕ)
dependency_version t = do
  version ← option_or (quoted_at (run is_blank t).1) (line_rest (run is_blank t).1)
  Some (version.0, unwrap_or (after_line_end version.1) (run is_blank version.1).1)

-- name and version, below a heading with an indent: a `:` or a space stands between them
unfoldable pub dependency_at : List ℕ → List ℕ → Option ((List ℕ × List ℕ) × List ℕ)
dependency_at indent t = do
  own ← deeper indent t
  name ← some_run is_name_byte own.1
  mark ← option_or (after (58 ∷ []) name.1) (after (32 ∷ []) name.1)
  version ← dependency_version mark
  Some ((trimmed name.0, version.0), version.1)

-- a kind, and what follows a heading that is there
abbrev pub names_kind : {K : Type 0} → K → Option (List ℕ) → Option (K × List ℕ)
names_kind kind None = None
names_kind kind (Some rest) = Some (kind, rest)

-- which dependencies a heading names, and what follows its `:`
unfoldable pub dependency_kind : List ℕ → Option (DependencyKind × List ℕ)
dependency_kind t =
    option_or (names_kind Regular (after (codes "dependencies:") t))
    (option_or (names_kind Optional (after (codes "optionalDependencies:") t))
    (names_kind Peer (after (codes "peerDependencies:") t)))

-- a heading with an indent, and the dependencies below it: one or more
unfoldable pub dependencies_at : List ℕ → List ℕ → Option ((DependencyKind × List (List ℕ × List ℕ)) × List ℕ)
dependencies_at indent t = do
  kind ← dependency_kind t
  body ← after_line_end kind.1
  found ← some (dependency_at indent) body
  Some ((kind.0, found.0), found.1)
