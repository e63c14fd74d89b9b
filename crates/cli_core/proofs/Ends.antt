-- Which statuses a command doesn't end with, and the counts of faults that stay for it.
use Rattle.std.proofs.Common.{◌≡◌, ◌≢◌, ◌⊎◌, ℕ, Result, Ok, Err, is_ok, inl, inr, refl, ap}
use Rattle.tree_core.specs.Tree.{TreeState}
use Rattle.resolve_stack.specs.Settings.{ProjectSettings}
use Rattle.document_core.specs.declared.cause.Cause.{Cause}
use Rattle.disk_report.specs.Asked.{Asked}
use Rattle.disk_report.specs.DiskRequest.{project_of}
use Rattle.cli_core.specs.OnDisk.{AsksDisk}
use Rattle.cli_core.specs.Run.{CountsTreeFault, is_of_source, is_of_tree}
use Rattle.cli_core.specs.Streams.{CountsFault, SinkState}
use Rattle.cli_core.specs.declared.status.Status.{Status}
use Rattle.cli_core.specs.declared.status.Status.TheVariants.{
  Done,
  Refused,
  Usage,
  ReadFault,
  WriteFault,
  TooLong,
  NoMemory,
  TreeFault,
  TwoReplies,
}

-- the source's count, where the source didn't fail
pub no_read_fault : (status : Status) (n : ℕ) → status ≢ ReadFault → CountsFault (is_of_source status) n n
no_read_fault Done n other = refl
no_read_fault Refused n other = refl
no_read_fault Usage n other = refl
no_read_fault ReadFault n other = absurd (other refl)
no_read_fault WriteFault n other = refl
no_read_fault TooLong n other = refl
no_read_fault NoMemory n other = refl
no_read_fault TreeFault n other = refl
no_read_fault TwoReplies n other = refl

-- the disk's count, where the disk didn't fail
pub no_disk_fault : (status : Status) (n : ℕ) → status ≢ TreeFault → CountsTreeFault (is_of_tree status) n n
no_disk_fault Done n other = refl
no_disk_fault Refused n other = refl
no_disk_fault Usage n other = refl
no_disk_fault ReadFault n other = refl
no_disk_fault WriteFault n other = refl
no_disk_fault TooLong n other = refl
no_disk_fault NoMemory n other = refl
no_disk_fault TreeFault n other = absurd (other refl)
no_disk_fault TwoReplies n other = refl

-- neither words that are no command nor a fault of the source
pub record EndsUnread (status : Status) : Type 0 where
  pub usage : status ≢ Usage
  pub source : status ≢ ReadFault

-- of counts, nor a fault of the disk
pub generates_ends : {status : Status} → (status ≡ Done) ⊎ ((status ≡ WriteFault) ⊎ (status ≡ NoMemory))
    → EndsUnread status × (status ≢ TreeFault)
generates_ends (inl is) = (record { usage = λ other. cc; source = λ other. cc }, λ other. cc)
generates_ends (inr (inl is)) = (record { usage = λ other. cc; source = λ other. cc }, λ other. cc)
generates_ends (inr (inr is)) = (record { usage = λ other. cc; source = λ other. cc }, λ other. cc)

cause_ends : {status : Status} → (status ≡ Refused) ⊎ ((status ≡ WriteFault) ⊎ (status ≡ NoMemory)) → EndsUnread status
cause_ends (inl is) = record { usage = λ other. cc; source = λ other. cc }
cause_ends (inr (inl is)) = record { usage = λ other. cc; source = λ other. cc }
cause_ends (inr (inr is)) = record { usage = λ other. cc; source = λ other. cc }

outcome_ends : {status : Status} → (status ≡ Done)
    ⊎ ((status ≡ WriteFault) ⊎ ((status ≡ NoMemory) ⊎ ((status ≡ TreeFault) ⊎ (status ≡ TwoReplies))))
    → EndsUnread status
outcome_ends (inl is) = record { usage = λ other. cc; source = λ other. cc }
outcome_ends (inr (inl is)) = record { usage = λ other. cc; source = λ other. cc }
outcome_ends (inr (inr (inl is))) = record { usage = λ other. cc; source = λ other. cc }
outcome_ends (inr (inr (inr (inl is)))) = record { usage = λ other. cc; source = λ other. cc }
outcome_ends (inr (inr (inr (inr is)))) = record { usage = λ other. cc; source = λ other. cc }

-- of requests over the disk
pub asks_ends : {request : Asked} {status : Status} {sink_old sink_new : SinkState} {disk_old disk_new : TreeState}
    → AsksDisk request status sink_old sink_new disk_old disk_new → EndsUnread status
asks_ends {request = request} {status = status} asks = by_project (project_of request) refl
  where
    by_project : (made : Result ProjectSettings Cause) → project_of request ≡ made → EndsUnread status
    by_project (Ok project) is = outcome_ends (asks.accepted (ap is_ok is)).ends
    by_project (Err cause) is = cause_ends (asks.refused cause is).ends
