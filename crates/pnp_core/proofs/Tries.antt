-- The texts of paths, told apart.
use Rattle.std.proofs.Common.{◌≡◌, bytes_eq, ap}
use Rattle.std.proofs.lemmas.Bool.Decides.{same_from_decides, Decides-like}
use Rattle.std.proofs.lemmas.Slice.Eq.{bytes_eq-Decides}
use Rattle.sugar_path.specs.Path.{Path, IsPath, path_eq, text_of}
use Rattle.sugar_path.specs.PathEq.{path_eq-Decides}
use Rattle.sugar_path.proofs.Parts.{text_of-injective}

-- the texts of two paths are one where the paths are
pub bytes_eq-text_of : (p q : Path) → IsPath p → IsPath q → bytes_eq (text_of p) (text_of q) ≡ path_eq p q
bytes_eq-text_of p q hp hq =
    same_from_decides _ _ (Decides-like _ (text_of-injective p q hp hq) (ap text_of)
    (bytes_eq-Decides (text_of p) (text_of q))) (path_eq-Decides p q)
