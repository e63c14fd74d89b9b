use Rattle.std.proofs.Common.{◌≡◌, ◌≤◌, drop}
use Rattle.es_imports.specs.Escapes.{hex_from}
use Rattle.es_imports.proofs.escape.hex_number.Given as goal

abbrev pub invariant-loop-digit : goal.invariant-loop-digit
invariant-loop-digit l =
    (l.number ≤ 0x10FFFF) × (hex_from l.number (drop l.digit-index l.digits) ≡ hex_from 0 l.digits)
