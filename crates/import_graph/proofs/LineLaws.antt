-- What one line imports, and the lines of two texts with a line feed between them.
use Rattle.std.proofs.Common.{
  ◌≡◌,
  ◌≢◌,
  ◌==◌,
  inl,
  inr,
  ℕ,
  Bool,
  true,
  false,
  cond,
  List,
  [],
  ◌∷◌,
  ◌++◌,
  Option,
  Some,
  None,
  refl,
  sym,
  ap,
  ◌∙◌,
  subst,
}
use Rattle.std.specs.Prelude.{option_and_then}
use Rattle.std.specs.List.{filter_map, onto_first}
use Rattle.std.specs.Option.{option_or}
use Rattle.std.specs.Str.{IsUtf8, is_utf8}
use Rattle.std.proofs.lemmas.List.Elements.{filter_map-append}
use Rattle.std.proofs.lemmas.Option.{none-some, same_Some}
use Rattle.std.proofs.lemmas.Str.{IsUtf8-from_is_utf8}
use Rattle.import_graph.specs.Lines.{
  as_text,
  begins_import,
  between_last,
  import_of,
  imports_of,
  lines_of,
  past_blanks,
  quoted,
}
use Rattle.import_graph.specs.Laws.{LineImports, LinesImportInTurn, StandsQuoted}
use Rattle.import_graph.proofs.MarkLaws.{stands, taken}
use Rattle.import_graph.proofs.Texts.{as_text-is}

-- ---- one line
text-told : (bytes text : List ℕ) → as_text bytes ≡ Some text → (bytes ≡ text) × IsUtf8 text
text-told bytes text e = by_test (is_utf8 bytes) refl e
  where
    by_test : (b : Bool) → is_utf8 bytes ≡ b → cond b (Some bytes) None ≡ Some text → (bytes ≡ text) × IsUtf8 text
    by_test true is x = let same = same_Some _ _ x in (same, subst IsUtf8 same (IsUtf8-from_is_utf8 bytes is))
    by_test false is x = absurd (none-some text x)

quoted-stands : (line text : List ℕ) → quoted line ≡ Some text → StandsQuoted line text
quoted-stands line text e = by_quotes (between_last 34 line) refl e
  where
    by_quotes : (o : Option (List ℕ)) → between_last 34 line ≡ o → option_or o (between_last 39 line) ≡ Some text
        → StandsQuoted line text
    by_quotes None is x = inr (λ other h. none-some other (sym is ∙ taken 34 line other h), stands 39 line text x)
    by_quotes (Some found) is x = inl (stands 34 line text (is ∙ x))

quoted-taken : (line text : List ℕ) → StandsQuoted line text → quoted line ≡ Some text
quoted-taken line text (inl h) = ap (λ o. option_or o (between_last 39 line)) (taken 34 line text h)
quoted-taken line text (inr h) = by_quotes (between_last 34 line) refl
  where
    by_quotes : (o : Option (List ℕ)) → between_last 34 line ≡ o → option_or o (between_last 39 line) ≡ Some text
    by_quotes None is = taken 39 line text h.1
    by_quotes (Some found) is = absurd (h.0 found (stands 34 line found is))

line-told : (line text : List ℕ) → import_of line ≡ Some text → (begins_import (past_blanks line) ≡ true) × IsUtf8 text
    × StandsQuoted line text
line-told line text e = by_words (begins_import (past_blanks line)) refl e
  where
    by_found : (o : Option (List ℕ)) → quoted line ≡ o → option_and_then as_text o ≡ Some text → IsUtf8 text
        × StandsQuoted line text
    by_found None is x = absurd (none-some text x)
    by_found (Some found) is x =
        let told = text-told found text x in (told.1, quoted-stands line text (is ∙ ap (λ t. Some t) told.0))

    by_words : (b : Bool) → begins_import (past_blanks line) ≡ b
        → cond b (option_and_then as_text (quoted line)) None ≡ Some text → (begins_import (past_blanks line) ≡ true)
        × IsUtf8 text × StandsQuoted line text
    by_words true is x = let found = by_found (quoted line) refl x in (is, found.0, found.1)
    by_words false is x = absurd (none-some text x)

pub line_imports : LineImports
line_imports = λ line text. (
  line-told line text,
  λ h. ap (λ b. cond b (option_and_then as_text (quoted line)) None) h.0
      ∙ ap (option_and_then as_text) (quoted-taken line text h.2)
      ∙ as_text-is text h.1,
)

-- ---- lines in turn
-- even the empty text has a line
lines-some : (text : List ℕ) → lines_of text ≢ []
lines-some [] e = cc
lines-some (b ∷ text) e = by_test (b == 10) (lines_of text) e
  where
    by_test : (r : Bool) (lines : List (List ℕ)) → cond r ([] ∷ lines) (onto_first b lines) ≢ []
    by_test true lines e = cc
    by_test false [] e = cc
    by_test false (line ∷ lines) e = cc

lines-append : (first second : List ℕ) → lines_of (first ++ 10 ∷ second) ≡ lines_of first ++ lines_of second
lines-append [] second = refl
lines-append (b ∷ first) second = rw (lines-append first second) (by_test (b == 10) (lines_of first) (lines-some first))
  where
    by_test : (r : Bool) (lines : List (List ℕ)) → lines ≢ []
        → cond r ([] ∷ (lines ++ lines_of second)) (onto_first b (lines ++ lines_of second)) ≡ cond r ([] ∷ lines)
        (onto_first b lines) ++ lines_of second
    by_test true lines some = refl
    by_test false [] some = absurd (some refl)
    by_test false (line ∷ lines) some = refl

pub lines_import_in_turn : LinesImportInTurn
unfolding imports_of
lines_import_in_turn = λ first second. ap (filter_map import_of) (lines-append first second)
    ∙ filter_map-append import_of (lines_of first) (lines_of second)
