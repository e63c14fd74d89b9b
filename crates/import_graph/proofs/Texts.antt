-- Bytes as a text, and the texts of lines in turn.
use Rattle.std.proofs.Common.{◌≡◌, Bool, true, false, cond, ℕ, List, [], ◌∷◌, ◌++◌, Option, Some, None, refl, ap, ◌∙◌}
use Rattle.std.specs.List.{cons_option, filter_map}
use Rattle.std.specs.Str.{IsUtf8, is_utf8}
use Rattle.std.proofs.lemmas.List.Elements.{filter_map-append}
use Rattle.std.proofs.lemmas.Str.{IsUtf8-from_is_utf8, is_utf8-from_IsUtf8}
use Rattle.import_graph.specs.Lines.{as_text, import_of}

pub as_text-is : (bytes : List ℕ) → IsUtf8 bytes → as_text bytes ≡ Some bytes
as_text-is bytes h = rw (is_utf8-from_IsUtf8 bytes h) refl

pub as_text-none : (bytes : List ℕ) → (IsUtf8 bytes → ⊥) → as_text bytes ≡ None
as_text-none bytes h = by_test (is_utf8 bytes) refl
  where
    by_test : (b : Bool) → is_utf8 bytes ≡ b → cond b (Some bytes) None ≡ None
    by_test true is = absurd (h (IsUtf8-from_is_utf8 bytes is))
    by_test false is = refl

-- what the lines import with one more
pub with-line : (lines : List (List ℕ)) (line : List ℕ) (found : Option (List ℕ)) → import_of line ≡ found
    → filter_map import_of (lines ++ line ∷ []) ≡ filter_map import_of lines ++ cons_option found []
with-line lines line found is =
    filter_map-append import_of lines (line ∷ []) ∙ ap (λ o. filter_map import_of lines ++ cons_option o []) is
