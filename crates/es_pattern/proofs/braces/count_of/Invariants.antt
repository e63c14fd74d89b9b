use Rattle.std.proofs.Common.{◌≡◌, ℕ, min, drop}
use Rattle.es_pattern.specs.Grammar.{number_from}
use Rattle.es_pattern.proofs.braces.count_of.Given as goal

abbrev pub invariant-loop-digit : goal.invariant-loop-digit
invariant-loop-digit l =
    (n : ℕ) × (number_from n (drop l.digit-index l.digits) ≡ number_from 0 l.digits) × (l.count ≡ min n 1001)
