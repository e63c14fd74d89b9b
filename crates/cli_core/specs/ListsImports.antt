-- How the command `imports` runs.
use Rattle.std.specs.Prelude.{
  ◌≡◌,
  ◌≢◌,
  ◌≤◌,
  ◌<◌,
  ◌+◌,
  ◌⊎◌,
  ℕ,
  Bool,
  true,
  List,
  length,
  Result,
  Ok,
  Err,
  IsOk,
  IsOkAnd,
  IsErrAnd,
}
use Rattle.std.specs.Option.{ForSome}
use Rattle.imports_report.specs.Cause.{source_cause_line}
use Rattle.imports_report.specs.Report.{imports_report}
use Rattle.imports_report.specs.declared.cause.SourceCause.{SourceCause}
use Rattle.cli_core.specs.Reading.{LeavesEnd}
use Rattle.cli_core.specs.Run.{Finishes, IsSteady, ReadsAll, is_of_source}
use Rattle.cli_core.specs.Streams.{SinkState, SourceState}
use Rattle.cli_core.specs.Writing.{AppendsFront}
use Rattle.cli_core.specs.declared.reading.TheConstants.{CHUNK, LONGEST}
use Rattle.cli_core.specs.declared.status.Status.{Status}
use Rattle.cli_core.specs.declared.status.Status.TheVariants.{
  Done,
  Refused,
  Usage,
  WriteFault,
  TooLong,
  NoMemory,
  TreeFault,
  TwoReplies,
}

-- the status and the text that the lines of imports or a cause come to
abbrev pub reply_as : Result (List ℕ) SourceCause → Status × List ℕ
reply_as (Ok text) = (Done, text)
reply_as (Err cause) = (Refused, source_cause_line cause)

-- the status and the text for the bytes of a source text, where nothing fails
abbrev pub imports_reply : Bool → List ℕ → Status × List ℕ
imports_reply jsx bytes = reply_as (imports_report jsx bytes)

-- The imports of a source text; elements of JSX are read, or not. Each fact of bytes is one where the source tells what
-- it has left, and each of a text one where the sink tells what was written.
pub record ListsImports (jsx : Bool) (status : Status) (source_old source_new : SourceState)
    (sink_old sink_new : SinkState) : Type 0 where
  -- Done: all bytes were read, and the line of each import was written
  pub done : status ≡ Done → ForSome source_old.left (λ bytes. IsOkAnd (imports_report jsx bytes)
      (λ text. Finishes bytes text source_new.left sink_old.written sink_new.written))
  -- Refused: all bytes were read, and the line of what is wrong with them was written
  pub refused : status ≡ Refused → ForSome source_old.left (λ bytes. IsErrAnd (imports_report jsx bytes)
      (λ cause. Finishes bytes (source_cause_line cause) source_new.left sink_old.written sink_new.written))
  -- WriteFault: all bytes were read, and a first part of those lines or of that one was written
  pub cut : status ≡ WriteFault → ForSome source_old.left (λ bytes. ReadsAll bytes source_new.left
      × AppendsFront ((imports_reply jsx bytes).1) sink_old.written sink_new.written)
  -- TooLong: there were more bytes than the longest document has
  pub too_long : status ≡ TooLong → ForSome source_old.left (λ bytes. LONGEST < length bytes)
  -- ReadFault: no more bytes than those of the longest document were read before
  pub early : is_of_source status ≡ true → ForSome source_old.left (λ bytes. LeavesEnd LONGEST bytes source_new.left)
  -- at most one piece was read past the longest document, however it ends
  pub end : ForSome source_old.left (λ bytes. LeavesEnd (LONGEST + CHUNK) bytes source_new.left)
  -- where neither the source nor the sink failed, a text that nothing is wrong with is answered, or no memory was found
  pub complete : ForSome source_old.left (λ bytes. length bytes ≤ LONGEST → IsOk (imports_report jsx bytes)
      → IsSteady source_old.faults source_new.faults → IsSteady sink_old.faults sink_new.faults
      → (status ≡ Done) ⊎ (status ≡ NoMemory))
  -- no other status comes
  pub ends : (status ≢ Usage) × (status ≢ TreeFault) × (status ≢ TwoReplies)
