-- How the command `replay` runs.
use Rattle.std.specs.Prelude.{◌≡◌, ◌≢◌, ◌≤◌, ◌<◌, ◌+◌, ◌⊎◌, ℕ, true, List, length, Result, Ok, Err}
use Rattle.std.specs.Option.{ForSome}
use Rattle.bundle_report.specs.Replaying.{IsReplayReport}
use Rattle.document_core.specs.declared.cause.Cause.{Cause}
use Rattle.cli_core.specs.Reading.{LeavesEnd}
use Rattle.cli_core.specs.Run.{Finishes, IsSteady, ReadsAll, is_of_source, reply_as}
use Rattle.cli_core.specs.Streams.{SinkState, SourceState}
use Rattle.cli_core.specs.Writing.{AppendsFront}
use Rattle.cli_core.specs.declared.reading.TheConstants.{CHUNK, LONGEST}
use Rattle.cli_core.specs.declared.status.Status.{Status}
use Rattle.cli_core.specs.declared.status.Status.TheVariants.{
  Done,
  Refused,
  Usage,
  WriteFault,
  TooLong,
  NoMemory,
  TreeFault,
  TwoReplies,
}

-- something is told of a replay document, of whose status and text this holds
pub record IsTold (bytes : List ℕ) (Holds : Status → List ℕ → Type 0) : Type 0 where
  pub told : Result (List ℕ) Cause
  pub is_report : IsReplayReport told bytes
  pub holds : Holds (reply_as told).0 (reply_as told).1

-- The report on a replay document. Each fact of bytes is one where the source tells what it has left, and each of a
-- text one where the sink tells what was written.
pub record Replays (status : Status) (source_old source_new : SourceState)
    (sink_old sink_new : SinkState) : Type 0 where
  -- Done: all bytes were read, and the lines of the bundle's verdicts were written
  pub done : status ≡ Done → ForSome source_old.left (λ bytes. IsTold bytes (λ ends text.
      (ends ≡ Done) × Finishes bytes text source_new.left sink_old.written sink_new.written))
  -- Refused: all bytes were read, and the line of the first cause against them was written
  pub refused : status ≡ Refused → ForSome source_old.left (λ bytes. IsTold bytes (λ ends text.
      (ends ≡ Refused) × Finishes bytes text source_new.left sink_old.written sink_new.written))
  -- WriteFault: all bytes were read, and a first part of those lines or of that one was written
  pub cut : status ≡ WriteFault → ForSome source_old.left (λ bytes. IsTold bytes (λ ends text.
      ReadsAll bytes source_new.left × AppendsFront text sink_old.written sink_new.written))
  -- TooLong: there were more bytes than the longest document has
  pub too_long : status ≡ TooLong → ForSome source_old.left (λ bytes. LONGEST < length bytes)
  -- ReadFault: no more bytes than those of the longest document were read before
  pub early : is_of_source status ≡ true → ForSome source_old.left (λ bytes. LeavesEnd LONGEST bytes source_new.left)
  -- at most one piece was read past the longest document, however it ends
  pub end : ForSome source_old.left (λ bytes. LeavesEnd (LONGEST + CHUNK) bytes source_new.left)
  -- where neither the source nor the sink failed, a document is answered or refused, or no memory was found
  pub complete : ForSome source_old.left (λ bytes. length bytes ≤ LONGEST
      → IsSteady source_old.faults source_new.faults → IsSteady sink_old.faults sink_new.faults
      → (status ≡ Done) ⊎ ((status ≡ Refused) ⊎ (status ≡ NoMemory)))
  -- no other status comes
  pub ends : (status ≢ Usage) × (status ≢ TreeFault) × (status ≢ TwoReplies)
