-- What the search at the location of a package tells of a tree: the law by which a reader checks the plan. Each `do`
-- here is over what is told.
use Rattle.std.specs.Prelude.{◌≡◌, ℕ, if◌then◌else◌, List, [], Option, Result, Ok, Err}
use Rattle.sugar_path.specs.Path.{Path, text_of}
use Rattle.tree_core.specs.Tree.{Files}
use Rattle.tree_core.specs.Told.{Told, told, unasked, ◌>>=◌, made}
use Rattle.swc_loader.specs.declared.located.Placed.{Placed}
use Rattle.swc_loader.specs.declared.refusal.NodeRefusal.{NodeRefusal}
use Rattle.swc_loader.specs.declared.refusal.NodeRefusal.TheVariants.{NotFound, MalformedPackage}
use Rattle.swc_loader.specs.declared.search.Searched.{Searched}
use Rattle.swc_loader.specs.declared.search.Searched.TheVariants.{File, Nothing, Malformed, Unfound}
use Rattle.swc_loader.specs.SearchOnTree.{folder_on, place_on}
use Rattle.swc_loader.specs.Settings.{NodeSettings}
use Rattle.swc_loader.specs.BrowserRulesOnTree.{ruled_file_on}
use Rattle.swc_loader.specs.Located.{text_at, is_whole, resolve_at}

-- what a search by a text comes to: a file by the rules for it, or a refusal
abbrev pub searched_on : Files → NodeSettings → List ℕ → Searched → Told (Result Placed NodeRefusal)
searched_on t s text (File f) = made (λ placed. Ok placed) (ruled_file_on t s f)
searched_on t s text Nothing = unasked (Err (NotFound text))
searched_on t s text (Malformed p) = unasked (Err (MalformedPackage (text_of p)))
searched_on t s text Unfound = unasked (Err (NotFound text))

-- the search of the location itself
abbrev pub whole_on : Files → NodeSettings → Path → Told (Result Placed NodeRefusal)
whole_on t s l = do
  found ← folder_on t s.conventions s.target l
  searched_on t s (text_of l) found

-- the search of the place behind a location
abbrev pub inside_on : Files → NodeSettings → List ℕ → Told (Result Placed NodeRefusal)
inside_on t s text = do
  found ← place_on t s.conventions s.target [] text
  searched_on t s text found

-- the search at a location: of the location itself, or of the place of the text behind it
abbrev pub located_on : Files → NodeSettings → Path → Option (List ℕ) → Told (Result Placed NodeRefusal)
located_on t s l subpath = if is_whole l subpath then whole_on t s l else inside_on t s (text_at l subpath)

-- the search at a location, on each tree
pub record LocatedOnTree : Type 0 where
  pub tells : (t : Files) (s : NodeSettings) (l : Path) (subpath : Option (List ℕ)) →
      told t (resolve_at s l subpath) ≡ located_on t s l subpath
