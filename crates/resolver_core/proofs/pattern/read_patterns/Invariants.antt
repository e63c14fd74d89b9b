use Rattle.std.proofs.Common.{◌≡◌, ◌++◌, Ok, vec_len}
use Rattle.std.specs.Vec.Iter.{into_iter_items}
use Rattle.sugar_path.specs.Results.{◌>>=◌}
use Rattle.resolver_core.specs.Pattern.{patterns_from}
use Rattle.resolver_core.proofs.pattern.read_patterns.Given as goal

-- the patterns so far, and those that are left, are the whole
abbrev pub invariant-loop-text : goal.invariant-loop-text
invariant-loop-text l =
    (goal.iterator-loop-text).can_next l.text-iterator ×
    (goal.iterator-loop-text).is_finite l.text-iterator ×
    (patterns_from 0 l.fn.paths ≡ (patterns_from (vec_len l.patterns) (into_iter_items l.text-iterator)
    >>= λ rest. Ok (l.patterns.items ++ rest)))
