-- What is written for a source text: a line for each of its imports.
use Rattle.std.specs.Prelude.{ℕ, Bool, List, Result, Ok, Err, if◌then◌else◌}
use Rattle.std.specs.Str.{is_utf8}
use Rattle.std.specs.Str.Lossy.{utf8_valid_len}
use Rattle.es_imports.specs.declared.imports.Import.{Import}
use Rattle.es_imports.specs.Imports.{Fault, imports_of}
use Rattle.imports_report.specs.declared.cause.SourceCause.{SourceCause}
use Rattle.imports_report.specs.declared.cause.SourceCause.TheVariants.{NotUtf8, NoToken}
use Rattle.imports_report.specs.Lines.{import_lines}

-- the lines of what a text imports, or the cause that is its fault
abbrev pub report_as : Result (List Import) Fault → Result (List ℕ) SourceCause
report_as (Ok imports) = Ok (import_lines imports)
report_as (Err fault) = Err (NoToken fault.place fault.cause)

-- The report on the bytes of a source text, or the cause against them: where they aren't UTF-8, the place behind the
-- longest front of them that is. Elements of JSX are read, or not.
unfoldable pub imports_report : Bool → List ℕ → Result (List ℕ) SourceCause
imports_report jsx bytes =
    if is_utf8 bytes then report_as (imports_of jsx bytes) else Err (NotUtf8 (utf8_valid_len bytes))
