-- Files as a reader of them tells them.
use Rattle.std.specs.Prelude.{◌≡◌, ℕ, List, Option, Some, None, option_map, refl}
use Rattle.std.specs.Coded.{Coded, code_by, coded×, coded_ℕ, coded_list}
use Rattle.std.specs.Cmp.Lexicographic.{slice_cmp}
use Rattle.std.specs.FinMap as finite
use Rattle.std.specs.Ordering.{nat_cmp}
use Rattle.std.specs.Str.Lossy.{utf8_lossy}

-- from paths to the bytes of files
abbrev pub Files : Type 0
Files = finite.FinMap (slice_cmp nat_cmp) (List ℕ)

-- a text is that of the file at a path, with U+FFFD for what is no UTF-8. Where the files aren't told it may be any
-- text
abbrev pub IsTextAt : Option Files → List ℕ → List ℕ → Type 0
IsTextAt None path text = Unit {0}
IsTextAt (Some files) path text = option_map utf8_lossy (finite.get files path) ≡ Some text

-- files in memory, and how often a file that isn't there was asked for
pub record MemoryFiles : Type 0 where
  pub files : Files
  pub faults : ℕ

abbrev pub memory_files_code : Coded MemoryFiles
memory_files_code = code_by (Files × ℕ) (coded× (finite.code (coded_list coded_ℕ) (coded_list coded_ℕ)) coded_ℕ)
    (λ m. (m.files, m.faults)) (λ p. record { files = p.0; faults = p.1 }) (λ _. refl)
