-- What is written for a replay document: the lines of a bundle's verdicts, by its replies alone.
use Rattle.std.specs.Prelude.{◌≡◌, ◌⊎◌, ℕ, List, flat_map, Result, Ok, Err}
use Rattle.report_core.specs.Lines.{verdict_line}
use Rattle.resolve_stack.specs.Settings.{ProjectSettings}
use Rattle.resolve_stack.specs.declared.verdict.Verdict.{Verdict}
use Rattle.document_core.specs.Document.{project_in, settings_in}
use Rattle.document_core.specs.declared.cause.Cause.{Cause}
use Rattle.document_core.specs.declared.cause.Cause.TheVariants.{BadBundle, NotRecorded}
use Rattle.document_core.specs.declared.cause.DocumentError.{DocumentError}
use Rattle.document_core.specs.declared.cause.DocumentError.TheVariants.{Refused, NoMemory}
use Rattle.trail_bundle.specs.Bundle.{Bundle, IsBundle}
use Rattle.trail_bundle.specs.BundleText.{bundle_text}
use Rattle.trail_bundle.specs.Decoding.{IsWrongBy}
use Rattle.trail_bundle.specs.Replaying.{AreReplayed, IsMissed}
use Rattle.bundle_report.specs.Given.{fields_in}
use Rattle.bundle_report.specs.declared.document.ReplayDocument.{ReplayDocument}

-- the lines of verdicts, in order
abbrev pub verdict_lines : List Verdict → List ℕ
verdict_lines = flat_map verdict_line

-- a text of the lines of a bundle's verdicts
pub record AreLines (text : List ℕ) (b : Bundle) (project : ProjectSettings) : Type 0 where
  pub verdicts : List Verdict
  pub replayed : AreReplayed verdicts b.replies project b.requests
  pub lines : text ≡ verdict_lines verdicts

-- a cause tells the first reply that a bundle lacks
abbrev pub IsMissedBy : Cause → Bundle → ProjectSettings → Type 0
IsMissedBy (NotRecorded request question) b project = IsMissed request question b.replies project b.requests
IsMissedBy _ b project = ⊥

-- a bundle is replayed in a project: its verdicts have lines, or a reply is missing
abbrev pub IsReplayed : Result (List ℕ) Cause → Bundle → ProjectSettings → Type 0
IsReplayed (Ok text) b project = AreLines text b project
IsReplayed (Err cause) b project = IsMissedBy cause b project

-- so it is, unless settings make no project
abbrev pub IsReplayedIn : Result (List ℕ) Cause → Bundle → Result ProjectSettings Cause → Type 0
IsReplayedIn told b (Ok project) = IsReplayed told b project
IsReplayedIn told b (Err cause) = told ≡ Err cause

-- a text is that of a bundle, of which this holds
pub record IsOfBundle (text : List ℕ) (Holds : Bundle → Type 0) : Type 0 where
  pub bundle : Bundle
  pub is_bundle : IsBundle bundle
  pub is_text : text ≡ bundle_text bundle
  pub holds : Holds bundle

-- a cause tells the line from which on a text is no bundle's
abbrev pub IsBadBundle : Cause → List ℕ → Type 0
IsBadBundle (BadBundle line) text = IsWrongBy line text
IsBadBundle _ text = ⊥

-- a document's text is that of a bundle, which is replayed in the document's project
abbrev pub IsReplayOf : Result (List ℕ) Cause → ReplayDocument → Type 0
IsReplayOf told d = IsOfBundle d.bundle (λ b. IsReplayedIn told b (project_in (settings_in d.settings d.lock)))

-- What a replay document whose fields are read comes to: its text is no bundle's from a line on, or that of a bundle,
-- which is replayed.
abbrev pub IsToldOf : Result (List ℕ) Cause → ReplayDocument → Type 0
IsToldOf (Ok text) d = IsReplayOf (Ok text) d
IsToldOf (Err cause) d = IsBadBundle cause d.bundle ⊎ IsReplayOf (Err cause) d

-- where the fields are read
abbrev pub IsToldBy : Result (List ℕ) Cause → Result ReplayDocument Cause → Type 0
IsToldBy told (Ok d) = IsToldOf told d
IsToldBy told (Err cause) = told ≡ Err cause

-- What is told of a replay document: the lines of its bundle's verdicts, or the first cause against it.
abbrev pub IsReplayReport : Result (List ℕ) Cause → List ℕ → Type 0
IsReplayReport told bytes = IsToldBy told (fields_in bytes)

-- a call answers what may be told, or want of memory
abbrev pub Answers : Result (List ℕ) DocumentError → (Result (List ℕ) Cause → Type 0) → Type 0
Answers (Ok text) IsTold = IsTold (Ok text)
Answers (Err (Refused cause)) IsTold = IsTold (Err cause)
Answers (Err NoMemory) IsTold = Unit {0}
