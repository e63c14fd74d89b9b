-- Which command words ask for, where it was found.
use Rattle.std.proofs.Common.{◌≡◌, ℕ, Bool, Option, Some}
use Rattle.disk_report.specs.Asked.{Asked}
use Rattle.cli_core.specs.declared.command.Command.{Command}
use Rattle.cli_core.specs.declared.command.Command.TheVariants.{Report, Imports, Generate, Disk}
use Rattle.cli_core.specs.declared.document_kind.DocumentKind.{DocumentKind}

pub same_kind : {command : Command} (asked : Option Command) (kind found : DocumentKind) → asked ≡ Some (Report kind)
    → Some command ≡ asked → command ≡ Report found → found ≡ kind
same_kind asked kind found named is command_is = cc

pub same_jsx : {command : Command} (asked : Option Command) (jsx found : Bool) → asked ≡ Some (Imports jsx)
    → Some command ≡ asked → command ≡ Imports found → found ≡ jsx
same_jsx asked jsx found named is command_is = cc

pub same_size : {command : Command} (asked : Option Command) (size found : ℕ) → asked ≡ Some (Generate size)
    → Some command ≡ asked → command ≡ Generate found → found ≡ size
same_size asked size found named is command_is = cc

pub same_request : {command : Command} (asked : Option Command) (request found : Asked) → asked ≡ Some (Disk request)
    → Some command ≡ asked → command ≡ Disk found → found ≡ request
same_request asked request found named is command_is = cc
