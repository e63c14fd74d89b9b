-- The search at a location tells of a tree what its law says.
use Rattle.std.proofs.Common.{◌≡◌, ℕ, List, [], Option, Ok, ap, ◌∙◌}
use Rattle.sugar_path.specs.Path.{Path, clean, text_of}
use Rattle.tree_core.specs.Tree.{Files}
use Rattle.tree_core.specs.Told.{told, made}
use Rattle.tree_core.proofs.Tellings.{told-done, told-by, told-if, told-never_refuses}
use Rattle.swc_loader.specs.declared.search.Searched.{Searched}
use Rattle.swc_loader.specs.declared.search.Searched.TheVariants.{File, Nothing, Malformed, Unfound}
use Rattle.swc_loader.specs.Search.{folder, place}
use Rattle.swc_loader.specs.Settings.{NodeSettings}
use Rattle.swc_loader.specs.BrowserRules.{ruled_file}
use Rattle.swc_loader.specs.Located.{text_at, is_whole, searched, whole, inside, resolve_at}
use Rattle.swc_loader.specs.LocatedOnTree.{searched_on, whole_on, inside_on, located_on, LocatedOnTree}
use Rattle.swc_loader.proofs.BrowserLaws.{told-ruled_file}
use Rattle.swc_loader.proofs.Searches.{folder_on_tree, place_on_tree}

pub told-searched : (t : Files) (s : NodeSettings) (text : List ℕ) (found : Searched)
    → told t (searched s text found) ≡ searched_on t s text found
told-searched t s text (File f) =
    told-never_refuses t (ruled_file s f) ∙ ap (made (λ placed. Ok placed)) (told-ruled_file t s f)
told-searched t s text Nothing = told-done t _
told-searched t s text (Malformed p) = told-done t _
told-searched t s text Unfound = told-done t _

told-whole : (t : Files) (s : NodeSettings) (l : Path) → told t (whole s l) ≡ whole_on t s l
unfolding whole
told-whole t s l =
    told-by t (folder s.conventions s.target l) _ (folder_on_tree.tells t s.conventions s.target l)
    (told-searched t s (text_of l))

told-inside : (t : Files) (s : NodeSettings) (text : List ℕ) → told t (inside s text) ≡ inside_on t s text
unfolding inside
told-inside t s text =
    told-by t (place s.conventions s.target [] text) _ (place_on_tree.tells t s.conventions s.target (clean [] text)
    text) (told-searched t s text)

told-located : (t : Files) (s : NodeSettings) (l : Path) (subpath : Option (List ℕ))
    → told t (resolve_at s l subpath) ≡ located_on t s l subpath
told-located t s l subpath = told-if t (is_whole l subpath) _ _ (told-whole t s l) (told-inside t s (text_at l subpath))

pub located_on_tree : LocatedOnTree
located_on_tree = record { tells = told-located }
