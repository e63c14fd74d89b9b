use Rattle.std.proofs.Common.{◌≡◌, not, filter, length}
use Rattle.session_core.specs.Numbered.{kept_in}
use Rattle.session_core.specs.Entries.{is_asking}
use Rattle.session_core.proofs.latest.Latest.drop_asking.Given as goal

-- what stays is as it was
abbrev pub invariant-loop-number : goal.invariant-loop-number
invariant-loop-number l =
    (filter (λ e. not (is_asking l.path e)) (kept_in l.self)
    ≡ filter (λ e. not (is_asking l.path e)) (kept_in l.fn.self))
    × (l.self.capacity ≡ l.fn.self.capacity)

abbrev pub decreases-loop-number : goal.decreases-loop-number
decreases-loop-number l = length l.self.entries
