-- What the parts of a replay tell.
use Rattle.std.specs.Prelude.{ℕ, List}
use Rattle.resolve_stack.specs.Settings.{ProjectSettings}
use Rattle.document_core.specs.declared.cause.DocumentError.{DocumentError}
use Rattle.document_core.specs.declared.cause.DocumentError.TheVariants.{Refused, NoMemory}
use Rattle.trail_bundle.specs.Bundle.{Bundle}
use Rattle.bundle_report.specs.Replaying.{IsBadBundle, IsMissedBy}

-- an error tells the line from which on a text is no bundle's
abbrev pub TellsLine : DocumentError → List ℕ → Type 0
TellsLine (Refused cause) text = IsBadBundle cause text
TellsLine NoMemory text = Unit {0}

-- an error tells a reply that a bundle lacks
abbrev pub TellsMissed : DocumentError → Bundle → ProjectSettings → Type 0
TellsMissed (Refused cause) b project = IsMissedBy cause b project
TellsMissed NoMemory b project = Unit {0}
