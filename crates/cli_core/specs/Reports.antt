-- How a command runs that reads a document: `resolve`, `session`, `graph`, `audit` or `bundle`.
use Rattle.std.specs.Prelude.{◌≡◌, ◌≢◌, ◌≤◌, ◌<◌, ◌+◌, ◌⊎◌, true, length, IsOk, IsOkAnd, IsErrAnd}
use Rattle.std.specs.Option.{ForSome}
use Rattle.document_core.specs.CauseLine.{cause_line}
use Rattle.cli_core.specs.Reading.{LeavesEnd}
use Rattle.cli_core.specs.Report.{report_of}
use Rattle.cli_core.specs.Run.{Finishes, IsSteady, ReadsAll, is_of_source, reply_for}
use Rattle.cli_core.specs.Streams.{SinkState, SourceState}
use Rattle.cli_core.specs.Writing.{AppendsFront}
use Rattle.cli_core.specs.declared.document_kind.DocumentKind.{DocumentKind}
use Rattle.cli_core.specs.declared.reading.TheConstants.{CHUNK, LONGEST}
use Rattle.cli_core.specs.declared.status.Status.{Status}
use Rattle.cli_core.specs.declared.status.Status.TheVariants.{
  Done,
  Refused,
  Usage,
  WriteFault,
  TooLong,
  NoMemory,
  TreeFault,
  TwoReplies,
}

-- The report on a document of a kind. Each fact of bytes is one where the source tells what it has left, and each of a
-- text one where the sink tells what was written.
pub record Reports (kind : DocumentKind) (status : Status) (source_old source_new : SourceState)
    (sink_old sink_new : SinkState) : Type 0 where
  -- Done: all bytes were read, and the report on them was written
  pub done : status ≡ Done → ForSome source_old.left (λ bytes. IsOkAnd (report_of kind bytes)
      (λ text. Finishes bytes text source_new.left sink_old.written sink_new.written))
  -- Refused: all bytes were read, and the line of the first cause against them was written
  pub refused : status ≡ Refused → ForSome source_old.left (λ bytes. IsErrAnd (report_of kind bytes)
      (λ cause. Finishes bytes (cause_line cause) source_new.left sink_old.written sink_new.written))
  -- WriteFault: all bytes were read, and a first part of the report or of that line was written
  pub cut : status ≡ WriteFault → ForSome source_old.left (λ bytes. ReadsAll bytes source_new.left
      × AppendsFront ((reply_for kind bytes).1) sink_old.written sink_new.written)
  -- TooLong: there were more bytes than the longest document has
  pub too_long : status ≡ TooLong → ForSome source_old.left (λ bytes. LONGEST < length bytes)
  -- ReadFault: no more bytes than those of the longest document were read before
  pub early : is_of_source status ≡ true → ForSome source_old.left (λ bytes. LeavesEnd LONGEST bytes source_new.left)
  -- at most one piece was read past the longest document, however it ends
  pub end : ForSome source_old.left (λ bytes. LeavesEnd (LONGEST + CHUNK) bytes source_new.left)
  -- where neither the source nor the sink failed, a document that nothing is against is answered, or no memory was
  -- found
  pub complete : ForSome source_old.left (λ bytes. length bytes ≤ LONGEST → IsOk (report_of kind bytes)
      → IsSteady source_old.faults source_new.faults → IsSteady sink_old.faults sink_new.faults
      → (status ≡ Done) ⊎ (status ≡ NoMemory))
  -- no other status comes
  pub ends : (status ≢ Usage) × (status ≢ TreeFault) × (status ≢ TwoReplies)
