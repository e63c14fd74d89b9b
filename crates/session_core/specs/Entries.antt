-- Lists of kept outcomes, the most recently used first.
use Rattle.std.specs.Prelude.{ℕ, ◌-◌, Bool, not, ◌&&◌, ◌||◌, bytes_eq, List, ◌∷◌, take, filter, Option, Some, None}
use Rattle.std.specs.List.{find, list_any}
use Rattle.tree_core.specs.declared.question.Question.{Question}
use Rattle.tree_core.specs.declared.question.Reply.{Reply}
use Rattle.tree_core.specs.Question.{path_asked}
use Rattle.tree_core.specs.Tree.{stands_above}
use Rattle.swc_loader.specs.declared.resolution.FileName.{FileName}
use Rattle.resolver_core.specs.Caching.{name_eq}
use Rattle.session_core.specs.declared.latest.Entry.{Entry}

-- an entry is that of a request
abbrev pub is_for : FileName → List ℕ → Entry → Bool
is_for importer specifier e = name_eq e.importer importer && bytes_eq e.specifier specifier

-- two entries are of one request
abbrev pub same_request : Entry → Entry → Bool
same_request a b = is_for a.importer a.specifier b

-- the entry of a request
abbrev pub kept_for : FileName → List ℕ → List Entry → Option Entry
kept_for importer specifier kept = find (is_for importer specifier) kept

-- the entry of a request moves to the front
abbrev pub moved_first : FileName → List ℕ → List Entry → Option Entry → List Entry
moved_first importer specifier kept None = kept
moved_first importer specifier kept (Some e) =
    e ∷ filter (λ other. not (is_for importer specifier other)) kept

-- a new entry is put in front, and the last of a full list goes
abbrev pub put_first : ℕ → Entry → List Entry → List Entry
put_first capacity e kept = e ∷ take (capacity - 1) kept

-- an edit of a path bears on a question on that path, or on one that stands above it
abbrev pub bears_on : List ℕ → List ℕ → Bool
bears_on path asked = bytes_eq asked path || stands_above asked path

-- some question of a trail is on a path that passes
abbrev pub asks : (List ℕ → Bool) → List (Question × Reply) → Bool
asks test trail = list_any (λ step. test (path_asked step.0)) trail

-- a trail has a question on a path
abbrev pub is_asking : List ℕ → Entry → Bool
is_asking path e = asks (λ asked. bytes_eq asked path) e.outcome.trail

-- an edit of a path touches an outcome whose trail has a question that it bears on
abbrev pub is_touched : List ℕ → Entry → Bool
is_touched path e = asks (bears_on path) e.outcome.trail

-- what an edit of a path leaves
abbrev pub untouched : List ℕ → List Entry → List Entry
untouched path kept = filter (λ e. not (is_touched path e)) kept
