use Rattle.std.proofs.Common.{◌≡◌, Some, take}
use Rattle.es_pattern.specs.Faults.{byte_place}
use Rattle.es_pattern.specs.Parsing.{PassesBefore}
use Rattle.es_pattern.specs.Reading.{reads, start}
use Rattle.es_pattern.specs.ReaderView.{reading}
use Rattle.es_pattern.proofs.parse.pieces_from.Given as goal

abbrev pub invariant-loop-number : goal.invariant-loop-number
invariant-loop-number l = (reads (take l.number l.characters) start ≡ Some (reading l.reader))
    × (l.place ≡ byte_place l.characters l.number) × PassesBefore l.characters l.number
