-- What the replay of one request tells of it as one of several.
use Rattle.std.specs.Prelude.{ℕ, Result, Ok, Err}
use Rattle.replay_core.specs.declared.replaying.ReplayError.{ReplayError}
use Rattle.replay_core.specs.declared.replaying.ReplayError.TheVariants as one
use Rattle.resolve_stack.specs.declared.verdict.Verdict.{Verdict}
use Rattle.trail_bundle.specs.declared.replay_error.BundleReplayError.{BundleReplayError}
use Rattle.trail_bundle.specs.declared.replay_error.BundleReplayError.TheVariants.{NotRecorded, NoMemory}

-- a result, with the number of the request in its error
abbrev pub numbered : ℕ → Result Verdict ReplayError → Result Verdict BundleReplayError
numbered request (Ok verdict) = Ok verdict
numbered request (Err (one.NotRecorded question)) = Err (NotRecorded request question)
numbered request (Err one.NoMemory) = Err NoMemory
