use Rattle.std.proofs.Common.{arith}
use Rattle.session_core.specs.Entries.{is_asking}
use Rattle.session_core.proofs.Numbers.{none-entries}
use Rattle.session_core.proofs.Indexes.{all-small}
use Rattle.session_core.proofs.latest.Latest.number_asking.Goals as goal

pub first_of-requires-clause-small : goal.first_of-requires-clause-small
first_of-requires-clause-small c =
    let fits = c.self.invariant.0.fits in
    all-small c.self.inside.next c.self.inside.entries.entries (omega (arith, fits)) c.self.invariant.0.below

pub returns-clause-none : goal.returns-clause-none
returns-clause-none c =
    rw (← c.self.view_is) (none-entries (is_asking c.args.path.now) c.first_of.result c.self.inside.entries.entries
    c.first_of.ensures.none)
