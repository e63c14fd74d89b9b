-- How the command `disk` runs.
use Rattle.std.specs.Prelude.{◌≡◌, ◌⊎◌, IsOk, IsOkAnd}
use Rattle.std.specs.Result.{ForErr}
use Rattle.swc_loader.specs.declared.resolution.FileName.TheVariants.{Real}
use Rattle.tree_core.specs.Tree.{TreeState}
use Rattle.document_core.specs.CauseLine.{cause_line}
use Rattle.document_core.specs.declared.cause.Cause.{Cause}
use Rattle.disk_report.specs.Asked.{Asked}
use Rattle.disk_report.specs.DiskRequest.{project_of}
use Rattle.disk_report.specs.Outcomes.{AnswersInTwoWays, IsTold}
use Rattle.disk_report.specs.declared.forms.DiskForm.TheVariants.{Bundle}
use Rattle.cli_core.specs.Run.{IsSteady}
use Rattle.cli_core.specs.Streams.{Appends, SinkState}
use Rattle.cli_core.specs.Writing.{AppendsFront}
use Rattle.cli_core.specs.declared.status.Status.{Status}
use Rattle.cli_core.specs.declared.status.Status.TheVariants.{
  Done,
  Refused,
  WriteFault,
  NoMemory,
  TreeFault,
  TwoReplies,
}

-- Requests whose project is refused for a cause. The disk is left as it was.
pub record TellsCause (cause : Cause) (status : Status) (sink_old sink_new : SinkState)
    (disk_old disk_new : TreeState) : Type 0 where
  -- Refused: the line of the cause was written
  pub refused : status ≡ Refused → Appends (cause_line cause) sink_old.written sink_new.written
  -- WriteFault: a first part of it was
  pub cut : status ≡ WriteFault → AppendsFront (cause_line cause) sink_old.written sink_new.written
  -- no other status comes
  pub ends : (status ≡ Refused) ⊎ ((status ≡ WriteFault) ⊎ (status ≡ NoMemory))
  -- the disk isn't asked
  pub unasked : disk_new ≡ disk_old

-- Requests whose project is accepted. What is written is of what is told of their outcomes, over any disk.
pub record TellsOutcomes (request : Asked) (status : Status) (sink_old sink_new : SinkState)
    (disk_old disk_new : TreeState) : Type 0 where
  -- Done: what is told of the outcomes was written
  pub done : status ≡ Done → IsTold disk_old.stands_for request
      (λ text. Appends text sink_old.written sink_new.written)
  -- WriteFault: a first part of it was
  pub cut : status ≡ WriteFault → IsTold disk_old.stands_for request
      (λ text. AppendsFront text sink_old.written sink_new.written)
  -- TwoReplies: a bundle is asked for, and the disk gave two replies to one question
  pub in_conflict : status ≡ TwoReplies → (request.form ≡ Bundle) × IsOkAnd (project_of request)
      (λ project. AnswersInTwoWays disk_old.stands_for project (Real request.importer) request.specifiers)
  -- where neither the disk nor the sink failed, it was written whole, or no memory was found, or the disk was no tree's
  pub complete : IsSteady disk_old.faults disk_new.faults → IsSteady sink_old.faults sink_new.faults
      → (status ≡ Done) ⊎ ((status ≡ NoMemory) ⊎ (status ≡ TwoReplies))
  -- no other status comes: a fault of the disk only here
  pub ends : (status ≡ Done)
      ⊎ ((status ≡ WriteFault) ⊎ ((status ≡ NoMemory) ⊎ ((status ≡ TreeFault) ⊎ (status ≡ TwoReplies))))

-- Requests over the disk: their project is refused, and the cause is told, or it is accepted, and outcomes are.
pub record AsksDisk (request : Asked) (status : Status) (sink_old sink_new : SinkState)
    (disk_old disk_new : TreeState) : Type 0 where
  pub refused : ForErr (project_of request) (λ cause. TellsCause cause status sink_old sink_new disk_old disk_new)
  pub accepted : IsOk (project_of request) → TellsOutcomes request status sink_old sink_new disk_old disk_new
