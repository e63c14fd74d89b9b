-- The text for people on one outcome.
use Rattle.std.specs.Prelude.{ℕ, ◌++◌, List, [], codes, Option, Some, None}
use Rattle.swc_loader.specs.declared.resolution.FileName.{FileName}
use Rattle.swc_loader.specs.declared.resolution.FileName.TheVariants as name
use Rattle.swc_loader.specs.declared.resolution.Found.{Found}
use Rattle.swc_loader.specs.declared.resolution.Resolution.{Resolution}
use Rattle.swc_loader.specs.declared.resolution.Via.{Via}
use Rattle.resolve_stack.specs.declared.verdict.Outcome.{Outcome}
use Rattle.resolve_stack.specs.declared.verdict.Verdict.{Verdict}
use Rattle.resolve_stack.specs.declared.verdict.Verdict.TheVariants as verdict
use Rattle.explain_report.specs.Refusals.{refusal_lines}
use Rattle.explain_report.specs.Steps.{steps_text}

-- what asks
abbrev pub asked_from : FileName → List ℕ
asked_from (name.Real path) = path
asked_from (name.Custom text) = text
asked_from name.Anon = codes "a source without a name"

-- an answer without a file
abbrev pub name_line : FileName → List ℕ
name_line (name.Real path) = codes "answered: the path " ++ path ++ codes ", without a file\n"
name_line (name.Custom text) = codes "answered: the name " ++ text ++ codes ", without a file\n"
name_line name.Anon = codes "answered: without a name and a file\n"

-- a package, and where it lies
abbrev pub via_line : Via → List ℕ
via_line via =
    via.name ++ codes "@" ++ via.reference ++ codes " at " ++ via.location ++ codes "\n"

abbrev pub file_line_by : List ℕ → Option Via → List ℕ
file_line_by file None = codes "found: " ++ file ++ codes "\n"
file_line_by file (Some via) = codes "found: " ++ file ++ codes ", of " ++ via_line via

-- the file that was found, and the package through whose row it was
abbrev pub file_line : Found → List ℕ
file_line found = file_line_by found.file found.via

abbrev pub answer_line_by : FileName → Option Found → List ℕ
answer_line_by filename (Some found) = file_line found
answer_line_by filename None = name_line filename

abbrev pub answer_line : Resolution → List ℕ
answer_line resolution = answer_line_by resolution.filename resolution.found

-- how the request ended
abbrev pub verdict_lines : Verdict → List ℕ
verdict_lines (verdict.Answered resolution) = answer_line resolution
verdict_lines (verdict.Refused refusal) = refusal_lines refusal

-- an outcome told whole: what was asked from where, each question with what was there, and how the request ended
unfoldable pub explained : FileName → List ℕ → Outcome → List ℕ
explained importer specifier outcome =
    (specifier ++ codes " from " ++ asked_from importer ++ codes "\n")
    ++ steps_text [] outcome.trail ++ verdict_lines outcome.verdict
