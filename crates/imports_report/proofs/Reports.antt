-- The report on bytes, by whether they are UTF-8.
use Rattle.std.proofs.Common.{◌≡◌, Bool, true, false, cond, ℕ, List, Err, refl}
use Rattle.std.specs.Str.{IsUtf8, is_utf8}
use Rattle.std.specs.Str.Lossy.{utf8_valid_len}
use Rattle.std.proofs.lemmas.Str.{IsUtf8-from_is_utf8, is_utf8-from_IsUtf8}
use Rattle.es_imports.specs.Imports.{imports_of}
use Rattle.imports_report.specs.declared.cause.SourceCause.TheVariants.{NotUtf8}
use Rattle.imports_report.specs.Report.{imports_report, report_as}

pub report_of_text : (jsx : Bool) (bytes : List ℕ) → IsUtf8 bytes
    → imports_report jsx bytes ≡ report_as (imports_of jsx bytes)
unfolding imports_report
report_of_text jsx bytes h = rw (is_utf8-from_IsUtf8 bytes h) refl

pub report_of_bytes : (jsx : Bool) (bytes : List ℕ) → (IsUtf8 bytes → ⊥)
    → imports_report jsx bytes ≡ Err (NotUtf8 (utf8_valid_len bytes))
unfolding imports_report
report_of_bytes jsx bytes h = by_test (is_utf8 bytes) refl
  where
    by_test : (b : Bool) → is_utf8 bytes ≡ b
        → cond b (report_as (imports_of jsx bytes)) (Err (NotUtf8 (utf8_valid_len bytes)))
        ≡ Err (NotUtf8 (utf8_valid_len bytes))
    by_test true is = absurd (h (IsUtf8-from_is_utf8 bytes is))
    by_test false is = refl
