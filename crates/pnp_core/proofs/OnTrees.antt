-- What the plans of the nearest manifest and of its loading tell of a tree.
use Rattle.std.proofs.Common.{◌≡◌, ◌∷◌, ap, ◌∙◌, map, Ok}
use Rattle.std.specs.Prelude.{option_map}
use Rattle.sugar_path.specs.Path.{Path, up, text_of}
use Rattle.tree_core.specs.Tree.{Files}
use Rattle.tree_core.specs.Plan.{read}
use Rattle.tree_core.specs.Told.{told, made}
use Rattle.tree_core.proofs.Tellings.{told-made, told-read, told-first_existing}
use Rattle.pnp_core.specs.ManifestReading.{reading}
use Rattle.pnp_core.specs.Nearest.{manifest_file, nearest, nearest_text}
use Rattle.pnp_core.specs.Loading.{loading, or_refused, told_loading}
use Rattle.pnp_core.specs.OnTree.{
  nearest_on,
  nearest_text_on,
  loaded_on,
  told_on,
  NearestOnTree,
  NearestTextOnTree,
  LoadedOnTree,
  ToldOnTree,
}

told-nearest : (t : Files) (p : Path) → told t (nearest p) ≡ nearest_on t p
unfolding nearest
told-nearest t p = told-first_existing t (map manifest_file (p ∷ up p))

told-loading : (t : Files) (p : Path) → told t (loading p) ≡ loaded_on t p
unfolding loading
told-loading t p =
    told-made t (read p) (λ content. reading content p) ∙ ap (made (λ content. reading content p)) (told-read t p)

told-nearest_text : (t : Files) (p : Path) → told t (nearest_text p) ≡ nearest_text_on t p
unfolding nearest_text
told-nearest_text t p =
    told-made t (nearest p) (λ found. Ok (option_map text_of found))
    ∙ ap (made (λ found. Ok (option_map text_of found))) (told-nearest t p)

told-told_loading : (t : Files) (p : Path) → told t (told_loading p) ≡ told_on t p
unfolding told_loading
told-told_loading t p = told-made t (loading p) (or_refused p) ∙ ap (made (or_refused p)) (told-loading t p)

pub nearest_on_tree : NearestOnTree
nearest_on_tree = record { tells = told-nearest }

pub loaded_on_tree : LoadedOnTree
loaded_on_tree = record { tells = told-loading }

pub nearest_text_on_tree : NearestTextOnTree
nearest_text_on_tree = record { tells = told-nearest_text }

pub told_on_tree : ToldOnTree
told_on_tree = record { tells = told-told_loading }
