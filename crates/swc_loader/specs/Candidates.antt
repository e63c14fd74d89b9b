-- File candidates: the paths at which the text of a specifier may be a file, in order, as bundlers and TypeScript's
-- resolver try them.
use Rattle.std.specs.Prelude.{
  ℕ,
  ◌==◌,
  ◌&&◌,
  Bool,
  false,
  not,
  if◌then◌else◌,
  List,
  [],
  ◌∷◌,
  ◌++◌,
  map,
  filter,
  None,
  bytes_eq,
  codes,
  drop,
  unwrap_or,
}
use Rattle.std.specs.List.{list_any, before_last, after_last, last_or}
use Rattle.std.specs.Option.{option_map_or}
use Rattle.std.specs.Map.{lookup}
use Rattle.sugar_path.specs.Path.{Path, parts, clean}
use Rattle.swc_loader.specs.Conventions.{Conventions}

abbrev pub is_dot : ℕ → Bool
is_dot c = c == 46

-- a name has an extension where a dot stands in it behind its first byte
abbrev pub has_extension : List ℕ → Bool
has_extension n = list_any is_dot (drop 1 n)

-- what follows the last dot of a name
abbrev pub extension : List ℕ → List ℕ
extension n = after_last is_dot n

-- what stands before the last dot of a name
abbrev pub stem : List ℕ → List ℕ
stem n = before_last is_dot n

-- the endings of the sources that a written extension may stand for
abbrev pub sources_of : Conventions → List ℕ → List (List ℕ)
sources_of c e = unwrap_or (lookup (bytes_eq e) c.source_endings) []

abbrev pub with_endings : List ℕ → List (List ℕ) → List (List ℕ)
with_endings n es = map (λ e. n ++ e) es

-- the name itself, where the text is closed
abbrev pub itself : Bool → List ℕ → List (List ℕ)
itself closed n = if closed then n ∷ [] else []

-- the names that are tried for a name with an extension: the name itself, the endings, and the sources that the
-- extension stands for
abbrev pub names_with_extension : Conventions → List ℕ → Bool → List ℕ → List ℕ → List (List ℕ)
names_with_extension c n closed base e =
    itself closed n ++ (with_endings n c.endings ++ with_endings base (sources_of c e))

-- the names that are tried for a name without one: some endings go before the name itself
abbrev pub names_without_extension : Conventions → List ℕ → Bool → List (List ℕ)
names_without_extension c n closed =
    with_endings n c.first_endings ++ (itself closed n ++ with_endings n c.endings)

-- the names that are tried for a name, in order
abbrev pub candidate_names : Conventions → List ℕ → Bool → List (List ℕ)
candidate_names c n closed =
    if has_extension n
    then names_with_extension c n closed (stem n) (extension n)
    else names_without_extension c n closed

-- names in a folder
abbrev pub in_folder : Path → List (List ℕ) → List Path
in_folder d names = map (λ m. m ∷ d) names

-- a part of a text that takes a step: it is neither empty nor `.`
abbrev pub is_step : List ℕ → Bool
is_step part = not (bytes_eq part []) && not (bytes_eq part (codes "."))

-- a step that is no `..` is a name
abbrev pub is_name : List ℕ → Bool
is_name part = is_step part && not (bytes_eq part (codes ".."))

-- the last of these parts is a name
abbrev pub ends_in_name : List (List ℕ) → Bool
ends_in_name parts = option_map_or is_name (last_or None parts) false

-- a text is named where its last component, with trailing `/` and `.` dropped, is a name
abbrev pub is_named : List ℕ → Bool
is_named t = ends_in_name (filter is_step (parts t))

-- a text is closed where what follows its last `/` is a name
abbrev pub is_closed : List ℕ → Bool
is_closed t = ends_in_name (parts t)

-- the candidates for the last name of a path, each in that name's folder; `/` has none
abbrev pub candidates_at : Conventions → Path → Bool → List Path
candidates_at c [] closed = []
candidates_at c (n ∷ d) closed = in_folder d (candidate_names c n closed)

-- the file candidates of a text that means a path, in order: a text that isn't named has none
abbrev pub files_at : Conventions → Path → List ℕ → List Path
files_at c p t = if is_named t then candidates_at c p (is_closed t) else []

-- the file candidates of a text that is read from a folder
abbrev pub files : Conventions → Path → List ℕ → List Path
files c cwd t = files_at c (clean cwd t) t
