-- What a scanner knows of what stands before its place.
use Rattle.es_imports.specs.declared.scanner.Scanner.{Scanner}
use Rattle.es_imports.specs.Goals.{Context}

abbrev pub context : Scanner → Context
context s = record { before = s.before; openings = s.openings.items; begins_line = s.begins_line }
