-- What each status says of the source, the sink and the disk.
use Rattle.std.specs.Prelude.{◌≡◌, ℕ, ◌≤◌, Bool, true, false, List, [], length, Option, Some, Result, Ok, Err}
use Rattle.tree_core.specs.Tree.{Rose, TreeState}
use Rattle.document_core.specs.CauseLine.{cause_line}
use Rattle.document_core.specs.declared.cause.Cause.{Cause}
use Rattle.cli_core.specs.Report.{report_of}
use Rattle.cli_core.specs.declared.document_kind.DocumentKind.{DocumentKind}
use Rattle.cli_core.specs.Streams.{Appends, CountsFault, SinkState, SourceState}
use Rattle.cli_core.specs.declared.reading.TheConstants.{LONGEST}
use Rattle.cli_core.specs.declared.status.Status.{Status}
use Rattle.cli_core.specs.declared.status.Status.TheVariants.{
  Done,
  Refused,
  Usage,
  ReadFault,
  WriteFault,
  TooLong,
  NoMemory,
  TreeFault,
  TwoReplies,
}

-- the number with which the program ends
abbrev pub code_of : Status → ℕ
code_of Done = 0
code_of Refused = 1
code_of Usage = 2
code_of ReadFault = 3
code_of WriteFault = 4
code_of TooLong = 5
code_of NoMemory = 6
code_of TreeFault = 7
code_of TwoReplies = 7

-- the status and the text that a report or a cause comes to
abbrev pub reply_as : Result (List ℕ) Cause → Status × List ℕ
reply_as (Ok text) = (Done, text)
reply_as (Err cause) = (Refused, cause_line cause)

-- the status and the text for the bytes of a document of a kind, where nothing fails
abbrev pub reply_for : DocumentKind → List ℕ → Status × List ℕ
reply_for kind bytes = reply_as (report_of kind bytes)

-- the source was read to its end
pub record ReadsAll (bytes : List ℕ) (left : Option (List ℕ)) : Type 0 where
  pub short : length bytes ≤ LONGEST
  pub at_end : left ≡ Some []

-- the source was read to its end, and the whole text was written
pub record Finishes (bytes text : List ℕ) (left before now : Option (List ℕ)) : Type 0 where
  pub read : ReadsAll bytes left
  pub written : Appends text before now

-- the status is that of a source's fault
abbrev pub is_of_source : Status → Bool
is_of_source Done = false
is_of_source Refused = false
is_of_source Usage = false
is_of_source ReadFault = true
is_of_source WriteFault = false
is_of_source TooLong = false
is_of_source NoMemory = false
is_of_source TreeFault = false
is_of_source TwoReplies = false

-- the status is that of a sink's fault
abbrev pub is_of_sink : Status → Bool
is_of_sink Done = false
is_of_sink Refused = false
is_of_sink Usage = false
is_of_sink ReadFault = false
is_of_sink WriteFault = true
is_of_sink TooLong = false
is_of_sink NoMemory = false
is_of_sink TreeFault = false
is_of_sink TwoReplies = false

-- the status is that of a tree's fault
abbrev pub is_of_tree : Status → Bool
is_of_tree Done = false
is_of_tree Refused = false
is_of_tree Usage = false
is_of_tree ReadFault = false
is_of_tree WriteFault = false
is_of_tree TooLong = false
is_of_tree NoMemory = false
is_of_tree TreeFault = true
is_of_tree TwoReplies = false

-- a tree's count of faults after a call: where the tree failed it rose, or stands at its last value; else it stayed
abbrev pub CountsTreeFault : Bool → ℕ → ℕ → Type 0
CountsTreeFault true before now = Rose before now
CountsTreeFault false before now = now ≡ before

-- Each fault has its cause, and none is passed over: the counts after a run of a status.
pub record CountsFaults (status : Status) (source_old source_new : SourceState)
    (sink_old sink_new : SinkState) (disk_old disk_new : TreeState) : Type 0 where
  -- the source failed just where the status is ReadFault
  pub source : CountsFault (is_of_source status) source_old.faults source_new.faults
  -- the sink failed just where it is WriteFault
  pub sink : CountsFault (is_of_sink status) sink_old.faults sink_new.faults
  -- the disk failed just where it is TreeFault
  pub disk : CountsTreeFault (is_of_tree status) disk_old.faults disk_new.faults

-- the status says that nothing was written
abbrev pub is_silent : Status → Bool
is_silent Done = false
is_silent Refused = false
is_silent Usage = true
is_silent ReadFault = true
is_silent WriteFault = false
is_silent TooLong = true
is_silent NoMemory = true
is_silent TreeFault = true
is_silent TwoReplies = true

-- a count of faults neither rose nor stands at its last value
abbrev pub IsSteady : ℕ → ℕ → Type 0
IsSteady before now = ¬ (Rose before now)
