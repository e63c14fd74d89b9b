use Rattle.std.specs.List.{AllByRecursion}
use Rattle.session_core.specs.Index.{fits, hash_of, noted_under, FailsAt}
use Rattle.session_core.proofs.index.first_under.Given as goal

-- where what is left fails, all under the hash does
abbrev pub invariant-loop-noted : goal.invariant-loop-noted
invariant-loop-noted l =
    AllByRecursion (λ x. FailsAt (fits l.sought) l.entries.entries x.number) l.noted-iterator
    → AllByRecursion (λ x. FailsAt (fits l.sought) l.entries.entries x.number)
    (noted_under (hash_of l.sought) l.all.keys)
