-- How a text of a manifest names a path: by parts between `/` and `\`.
use Rattle.std.specs.Prelude.{ℕ, Bool, ◌==◌, ◌||◌, ◌&&◌, not, if◌then◌else◌, List, [], ◌∷◌, ◌++◌, bytes_eq}
use Rattle.std.specs.List.{slice_split}
use Rattle.sugar_path.specs.Path.{Path, by_parts, ends_in_slash}
use Rattle.sugar_path.specs.Route.{Route, route_by_parts, route_start, route_text}

-- `/` or `\`
abbrev pub is_separator : ℕ → Bool
is_separator b = b == 47 || b == 92

-- what stands between the separators of a text
abbrev pub pieces : List ℕ → List (List ℕ)
pieces t = slice_split is_separator t

-- the path that an absolute text names, where `\` separates too
unfoldable pub location_path : List ℕ → Path
location_path t = by_parts [] (pieces t)

-- the route that a text names: where it begins is told as of a path, and then it is read on by its pieces
unfoldable pub text_route : List ℕ → Route
text_route t = route_by_parts (route_start t) (pieces t)

-- the text of that route: it is empty where no part is left and there is no root
abbrev pub normal_names : List ℕ → List ℕ
normal_names t = route_text (text_route t)

-- a `/` at the end of a text is kept, where the names don't end in one
abbrev pub with_end : List ℕ → List ℕ → List ℕ
with_end t names = if ends_in_slash t && not (ends_in_slash names) then names ++ 47 ∷ [] else names

-- a text in its normal form; where no name is left and there is no root, `.`
abbrev pub normalize_path : List ℕ → List ℕ
normalize_path t = if bytes_eq (normal_names t) [] then 46 ∷ [] else with_end t (normal_names t)
