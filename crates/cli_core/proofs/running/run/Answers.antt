use Rattle.std.proofs.Common.{refl}
use Rattle.cli_core.proofs.Ends.{asks_ends, generates_ends, no_disk_fault, no_read_fault}
use Rattle.cli_core.proofs.Words.{same_jsx, same_kind, same_size, same_request}
use Rattle.cli_core.proofs.running.run.Goals as goal

-- a command that reads a document

pub returns-in-Report-clause-usage : goal.returns-in-Report-clause-usage
returns-in-Report-clause-usage g c =
    (λ usage. absurd (c.resolve.ensures.reports.ends.0 usage), λ none. cc c.in-Some.ensures)

pub returns-in-Report-clause-reports : goal.returns-in-Report-clause-reports
returns-in-Report-clause-reports g c = λ kind named.
    let same = same_kind _ kind c.in-Report.kind named c.in-Some.ensures c.in-Report.is in
    rw (← same) (refl, c.resolve.ensures.reports)

pub returns-in-Report-clause-faults : goal.returns-in-Report-clause-faults
returns-in-Report-clause-faults g c = record {
  source = c.resolve.ensures.source_faults;
  sink = c.resolve.ensures.sink_faults;
  disk = no_disk_fault _ _ c.resolve.ensures.reports.ends.1;
}

-- the command that replays a bundle

pub returns-in-Replay-clause-usage : goal.returns-in-Replay-clause-usage
returns-in-Replay-clause-usage g c =
    (λ usage. absurd (c.replay.ensures.replays.ends.0 usage), λ none. cc c.in-Some.ensures)

pub returns-in-Replay-clause-replays : goal.returns-in-Replay-clause-replays
returns-in-Replay-clause-replays g c = λ named. (refl, c.replay.ensures.replays)

pub returns-in-Replay-clause-faults : goal.returns-in-Replay-clause-faults
returns-in-Replay-clause-faults g c = record {
  source = c.replay.ensures.source_faults;
  sink = c.replay.ensures.sink_faults;
  disk = no_disk_fault _ _ c.replay.ensures.replays.ends.1;
}

-- the imports of a source text

pub returns-in-Imports-clause-usage : goal.returns-in-Imports-clause-usage
returns-in-Imports-clause-usage g c =
    (λ usage. absurd (c.list_imports.ensures.imports.ends.0 usage), λ none. cc c.in-Some.ensures)

pub returns-in-Imports-clause-imports : goal.returns-in-Imports-clause-imports
returns-in-Imports-clause-imports g c = λ jsx named.
    let same = same_jsx _ jsx c.in-Imports.jsx named c.in-Some.ensures c.in-Imports.is in
    rw (← same) (refl, c.list_imports.ensures.imports)

pub returns-in-Imports-clause-faults : goal.returns-in-Imports-clause-faults
returns-in-Imports-clause-faults g c = record {
  source = c.list_imports.ensures.source_faults;
  sink = c.list_imports.ensures.sink_faults;
  disk = no_disk_fault _ _ c.list_imports.ensures.imports.ends.1;
}

-- a generated project

pub returns-in-Generate-clause-usage : goal.returns-in-Generate-clause-usage
returns-in-Generate-clause-usage g c =
    (λ usage. absurd ((generates_ends c.generate.ensures.generates.ends).0.usage usage), λ none. cc c.in-Some.ensures)

pub returns-in-Generate-clause-generates : goal.returns-in-Generate-clause-generates
returns-in-Generate-clause-generates g c = λ size named.
    let same = same_size _ size c.in-Generate.size named c.in-Some.ensures c.in-Generate.is in
    rw (← same) (refl, refl, c.generate.ensures.generates)

pub returns-in-Generate-clause-faults : goal.returns-in-Generate-clause-faults
returns-in-Generate-clause-faults g c =
    let ends = generates_ends c.generate.ensures.generates.ends in
    record {
      source = no_read_fault _ _ ends.0.source;
      sink = c.generate.ensures.sink_faults;
      disk = no_disk_fault _ _ ends.1;
    }

-- a request over the disk

pub returns-in-Disk-clause-usage : goal.returns-in-Disk-clause-usage
returns-in-Disk-clause-usage g c =
    (λ usage. absurd ((asks_ends c.ask_disk.ensures.asks).usage usage), λ none. cc c.in-Some.ensures)

pub returns-in-Disk-clause-asks : goal.returns-in-Disk-clause-asks
returns-in-Disk-clause-asks g c = λ request named.
    let same = same_request _ request c.in-Disk.request named c.in-Some.ensures c.in-Disk.is in
    rw (← same) (refl, c.ask_disk.ensures.asks)

pub returns-in-Disk-clause-faults : goal.returns-in-Disk-clause-faults
returns-in-Disk-clause-faults g c = record {
  source = no_read_fault _ _ (asks_ends c.ask_disk.ensures.asks).source;
  sink = c.ask_disk.ensures.sink_faults;
  disk = c.ask_disk.ensures.tree_faults;
}
