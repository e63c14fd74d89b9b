-- The causes against a source text, and their lines.
use Rattle.std.specs.Prelude.{◌≡◌, ℕ, List, [], ◌∷◌, ◌++◌, codes, decimal, Result, Ok, Err}
use Rattle.es_imports.specs.declared.refusal.Cause.{Cause}
use Rattle.es_imports.specs.declared.refusal.Cause.TheVariants.{
  Comment,
  StringLiteral,
  Template,
  RegularExpression,
  Character,
}
use Rattle.imports_report.specs.declared.cause.SourceCause.{SourceCause}
use Rattle.imports_report.specs.declared.cause.SourceCause.TheVariants.{NotUtf8, NoToken}
use Rattle.imports_report.specs.declared.cause.SourceError.{SourceError}
use Rattle.imports_report.specs.declared.cause.SourceError.TheVariants.{Refused, NoMemory}

-- a call meets what is wanted of it: it answers that, or want of memory
abbrev pub Meets : {A : Type 0} → Result A SourceError → Result A SourceCause → Type 0
Meets (Ok a) wanted = wanted ≡ Ok a
Meets (Err (Refused cause)) wanted = wanted ≡ Err cause
Meets (Err NoMemory) wanted = Unit {0}

-- why no token is at a place, in a word
abbrev pub name_of : Cause → List ℕ
name_of Comment = codes "comment"
name_of StringLiteral = codes "string"
name_of Template = codes "template"
name_of RegularExpression = codes "regular-expression"
name_of Character = codes "character"

-- the line of a source text that is refused
unfoldable pub source_cause_line : SourceCause → List ℕ
source_cause_line (NotUtf8 place) = codes "refused: not-utf8 " ++ (decimal place ++ 10 ∷ [])
source_cause_line (NoToken place cause) = codes "refused: " ++ (name_of cause ++ 32 ∷ (decimal place ++ 10 ∷ []))
