-- How the command `generate` runs.
use Rattle.std.specs.Prelude.{◌≡◌, ℕ, ◌⊎◌}
use Rattle.generated_project.specs.Counts.{generated_line}
use Rattle.cli_core.specs.Run.{IsSteady}
use Rattle.cli_core.specs.Streams.{Appends, SinkState}
use Rattle.cli_core.specs.Writing.{AppendsFront}
use Rattle.cli_core.specs.declared.status.Status.{Status}
use Rattle.cli_core.specs.declared.status.Status.TheVariants.{Done, WriteFault, NoMemory}

-- The counts of the generated project of a size. Each fact of a text is one where the sink tells what was written.
pub record Generates (size : ℕ) (status : Status) (sink_old sink_new : SinkState) : Type 0 where
  -- Done: the line of the counts was written
  pub done : status ≡ Done → Appends (generated_line size) sink_old.written sink_new.written
  -- WriteFault: a first part of it was
  pub cut : status ≡ WriteFault → AppendsFront (generated_line size) sink_old.written sink_new.written
  -- where the sink didn't fail, it was written whole, or no memory was found
  pub complete : IsSteady sink_old.faults sink_new.faults → (status ≡ Done) ⊎ (status ≡ NoMemory)
  -- no other status comes
  pub ends : (status ≡ Done) ⊎ ((status ≡ WriteFault) ⊎ (status ≡ NoMemory))
