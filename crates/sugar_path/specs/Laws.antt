-- What holds between the path operations, whatever the paths.
use Rattle.std.specs.Prelude.{◌≡◌, ◌↔◌, ◌⊎◌, true, List, [], ◌∷◌, ◌++◌, map, ℕ, Some, None}
use Rattle.std.specs.Path.{path_join, path_components, path_parent}
use Rattle.sugar_path.specs.Path.{Path, IsPath, text_of, clean, is_absolute, join}
use Rattle.sugar_path.specs.Route.{Route, Rooted, Relative, route_up, route_down, route_of, normal, from_folder}
use Rattle.sugar_path.specs.Relative.{relative_from}
use Rattle.sugar_path.specs.Parent.{parent_of}
use Rattle.sugar_path.specs.Component.{Piece, Root, Here, Above, Name, components_of}

-- a normal form is its own normal form
abbrev pub NormalTwice : Type 0
NormalTwice = (t : List ℕ) → normal (normal t) ≡ normal t

-- a base, and behind it the relative path from it to a target, lead to the target
abbrev pub RelativeLeadsThere : Type 0
RelativeLeadsThere =
    (cwd base target : List ℕ) → is_absolute cwd ≡ true
    → from_folder cwd (join base (relative_from cwd base target)) ≡ from_folder cwd target

-- the relative path is empty exactly between two paths to one place
abbrev pub RelativeEmptyAtOnePlace : Type 0
RelativeEmptyAtOnePlace =
    (cwd base target : List ℕ) → is_absolute cwd ≡ true
    → (relative_from cwd base target ≡ []) ↔ (from_folder cwd base ≡ from_folder cwd target)

-- a route read on by one component
abbrev pub by_piece : Route → Piece → Route
by_piece r Root = Rooted []
by_piece r Here = r
by_piece r Above = route_up r
by_piece r (Name n) = route_down r n

abbrev pub by_pieces : Route → List Piece → Route
by_pieces r [] = r
by_pieces r (p ∷ rest) = by_pieces (by_piece r p) rest

-- the components of a path lead where the path leads
abbrev pub ComponentsLeadThere : Type 0
ComponentsLeadThere = (t : List ℕ) → by_pieces (Relative 0 []) (components_of t) ≡ route_of t

-- a parent has the components of its path but the last one
abbrev pub ParentLeavesLast : Type 0
ParentLeavesLast =
    (t u : List ℕ) → parent_of t ≡ Some u → (last : Piece) × (components_of t ≡ components_of u ++ last ∷ [])

-- a path has no parent exactly where it has no component but the root
abbrev pub RootHasNoParent : Type 0
RootHasNoParent = (t : List ℕ) → (parent_of t ≡ None) ↔ ((components_of t ≡ []) ⊎ (components_of t ≡ Root ∷ []))

-- read from a clean folder, the place of a text is the clean path that it names
abbrev pub PlaceIsClean : Type 0
PlaceIsClean = (cwd : Path) (t : List ℕ) → IsPath cwd → from_folder (text_of cwd) t ≡ text_of (clean cwd t)

-- a path behind a folder, as std's paths have it
abbrev pub JoinIsStds : Type 0
JoinIsStds = (b t : List ℕ) → join b t ≡ path_join b t

-- the text that std has for a component
abbrev pub std_text : Piece → List ℕ
std_text Root = 47 ∷ []
std_text Here = 46 ∷ []
std_text Above = 46 ∷ 46 ∷ []
std_text (Name n) = n

-- the components of a path, as std's paths have them
abbrev pub ComponentsAreStds : Type 0
ComponentsAreStds = (t : List ℕ) → map std_text (components_of t) ≡ path_components t

-- the parent of a path, as std's paths have it
abbrev pub ParentIsStds : Type 0
ParentIsStds = (t : List ℕ) → parent_of t ≡ path_parent t
