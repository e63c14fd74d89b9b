-- Whether a path is ignored, as the search of the pattern tells it.
use Rattle.std.proofs.Common.{◌≡◌, ℕ, Bool, true, false, List, Option, Some, None, Ok, Err, Result, refl, sym, ap, ◌∙◌}
use Rattle.std.specs.Prelude.{IsTrue, IfOk, ◌↔◌}
use Rattle.std.specs.Str.{chars}
use Rattle.std.proofs.lemmas.Bool.{false≢true}
use Rattle.es_pattern.specs.Tree.{Tree}
use Rattle.es_pattern.specs.Spans.{IsFound}
use Rattle.es_pattern.specs.Found.{is_found}
use Rattle.es_pattern.proofs.Founds.{found_tells}
use Rattle.pnp_core.specs.Manifest.{Contents}
use Rattle.pnp_core.specs.Owner.{is_ignored, is_found_by, text_from}
use Rattle.pnp_core.specs.Ownership.{IsIgnored}
use Rattle.sugar_path.specs.Path.{Path, IsCleanPath, text_of, path_in}
use Rattle.sugar_path.specs.Relative.{relative_from}
use Rattle.sugar_path.proofs.Parts.{path_in-text_of}
use Rattle.pnp_core.specs.NormalizePath.{normalize_path}

-- without a pattern nothing is ignored
pub is_ignored-none : (m : Contents) (t : List ℕ) → m.ignore_pattern_data ≡ None → is_ignored m t ≡ false
unfolding is_ignored
is_ignored-none m t none = ap (λ o. is_found_by o (text_from m.manifest_dir t)) none

is_ignored-some : (m : Contents) (t : List ℕ) (pattern : Tree) → m.ignore_pattern_data ≡ Some pattern
    → is_ignored m t ≡ is_found pattern (chars (text_from m.manifest_dir t))
unfolding is_ignored
is_ignored-some m t pattern some = ap (λ o. is_found_by o (text_from m.manifest_dir t)) some

same_truth : (a b : Bool) → (IsTrue a → IsTrue b) → (IsTrue b → IsTrue a) → a ≡ b
same_truth true b to from = sym (to refl)
same_truth false true to from = absurd (false≢true (from refl))
same_truth false false to from = refl

-- the answer of a search of the pattern
pub search-is_found : {E : Type 0} (pattern : Tree) (text t : List ℕ) (r : Result Bool E) → text ≡ t
    → IfOk r (λ found. IsTrue found ↔ IsFound pattern (chars text))
    → IfOk r (λ found. found ≡ is_found pattern (chars t))
search-is_found pattern text t (Err e) at h = tt
search-is_found pattern text t (Ok found) at h =
    let tells = found_tells pattern (chars text) in
    same_truth found (is_found pattern (chars text)) (λ a. tells.1 (h.0 a)) (λ a. h.1 (tells.0 a))
    ∙ ap (λ x. is_found pattern (chars x)) at

-- a clean text is that of the path that it names
pub text_of-path_in : (t : List ℕ) → IsCleanPath t → text_of (path_in t) ≡ t
text_of-path_in t (p, names, e) = ap text_of (ap path_in e ∙ path_in-text_of p names) ∙ sym e

-- the text that a pattern is searched in, as it is made
pub from_texts : (a text b relative : List ℕ) (folder path : Path) (f : List ℕ) → a ≡ text → text ≡ normalize_path b
    → b ≡ relative → relative ≡ relative_from (text_of folder) (text_of folder) (text_of path) → folder ≡ path_in f
    → IsCleanPath f → a ≡ text_from f (text_of path)
from_texts a text b relative folder path f as_text normal as_relative from at_folder clean =
    as_text ∙ normal ∙ ap normalize_path (as_relative ∙ from
    ∙ ap (λ x. relative_from x x (text_of path)) (ap text_of at_folder ∙ text_of-path_in f clean))

pub found-is_ignored : {E : Type 0} (m : Contents) (t : List ℕ) (pattern : Tree) (r : Result Bool E)
    → m.ignore_pattern_data ≡ Some pattern → IfOk r (λ found. found ≡ is_found pattern
    (chars (text_from m.manifest_dir t))) → IfOk r (λ ignored. ignored ≡ is_ignored m t)
found-is_ignored m t pattern (Err e) some h = tt
found-is_ignored m t pattern (Ok found) some h = h ∙ sym (is_ignored-some m t pattern some)

-- and as the relation says it
pub ignored-tells : (m : Contents) (p : Path) → is_ignored m (text_of p) ≡ true → IsIgnored m p
unfolding is_ignored
ignored-tells m p h = by_pattern m.ignore_pattern_data refl h
  where
    by_pattern : (o : Option Tree) → m.ignore_pattern_data ≡ o
        → is_found_by o (text_from m.manifest_dir (text_of p)) ≡ true → IsIgnored m p
    by_pattern None e g = absurd (false≢true g)
    by_pattern (Some pattern) e g =
        (pattern, e, (found_tells pattern (chars (text_from m.manifest_dir (text_of p)))).0 g)

pub ignored-from : (m : Contents) (p : Path) → IsIgnored m p → is_ignored m (text_of p) ≡ true
ignored-from m p (pattern, some, found) = is_ignored-some m (text_of p) pattern some
    ∙ (found_tells pattern (chars (text_from m.manifest_dir (text_of p)))).1 found
