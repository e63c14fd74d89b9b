-- The search at the location of a package. Each `do` here is over plans.
use Rattle.std.specs.Prelude.{ℕ, Bool, true, if◌then◌else◌, List, [], ◌∷◌, ◌++◌, Option, Some, None, Result, Err}
use Rattle.sugar_path.specs.Path.{Path, text_of, clean, path_eq}
use Rattle.tree_core.specs.Plan.{Plan, Done, ◌>>=◌}
use Rattle.tree_core.specs.Rows.{never_refuses}
use Rattle.swc_loader.specs.declared.located.Placed.{Placed}
use Rattle.swc_loader.specs.declared.refusal.NodeRefusal.{NodeRefusal}
use Rattle.swc_loader.specs.declared.refusal.NodeRefusal.TheVariants.{NotFound, MalformedPackage}
use Rattle.swc_loader.specs.declared.search.Searched.{Searched}
use Rattle.swc_loader.specs.declared.search.Searched.TheVariants.{File, Nothing, Malformed, Unfound}
use Rattle.swc_loader.specs.Search.{folder, place}
use Rattle.swc_loader.specs.Settings.{NodeSettings}
use Rattle.swc_loader.specs.BrowserRules.{ruled_file}

-- the text behind a location, taken by the letter
abbrev pub behind : Path → List ℕ → List ℕ
behind l subpath = text_of l ++ 47 ∷ subpath

-- What a search by a text comes to: a file by the rules for it, or a refusal.
abbrev pub searched : NodeSettings → List ℕ → Searched → Plan (Result Placed NodeRefusal)
searched s text (File f) = never_refuses (ruled_file s f)
searched s text Nothing = Done (Err (NotFound text))
searched s text (Malformed p) = Done (Err (MalformedPackage (text_of p)))
searched s text Unfound = Done (Err (NotFound text))

-- the search of the location itself
unfoldable pub whole : NodeSettings → Path → Plan (Result Placed NodeRefusal)
whole s l = do
  found ← folder s.conventions s.target l
  searched s (text_of l) found

-- the search of the place behind a location
unfoldable pub inside : NodeSettings → List ℕ → Plan (Result Placed NodeRefusal)
inside s text = do
  found ← place s.conventions s.target [] text
  searched s text found

-- the text that is searched at a location: that of the location, or the one behind it
abbrev pub text_at : Path → Option (List ℕ) → List ℕ
text_at l None = text_of l
text_at l (Some subpath) = behind l subpath

-- whether a search is that of the location itself: without subpath, or where the text behind the location means the
-- location itself
abbrev pub is_whole : Path → Option (List ℕ) → Bool
is_whole l None = true
is_whole l (Some subpath) = path_eq (clean [] (behind l subpath)) l

-- the search at a location: of the location itself, or of the place of the text behind it
abbrev pub resolve_at : NodeSettings → Path → Option (List ℕ) → Plan (Result Placed NodeRefusal)
resolve_at s l subpath = if is_whole l subpath then whole s l else inside s (text_at l subpath)
