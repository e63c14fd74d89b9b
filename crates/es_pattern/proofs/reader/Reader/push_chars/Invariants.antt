use Rattle.std.proofs.Common.{◌≡◌, drop}
use Rattle.es_pattern.specs.Reading.{flushed_chars}
use Rattle.es_pattern.specs.ReaderView.{reading}
use Rattle.es_pattern.proofs.reader.Reader.push_chars.Given as goal

abbrev pub invariant-loop-c : goal.invariant-loop-c
invariant-loop-c l =
    flushed_chars (drop l.c-index l.characters) (reading l.self) ≡ flushed_chars l.characters (reading l.initial.self)
