use Rattle.session_core.proofs.Indexes.{none-sought, if_none-then}
use Rattle.session_core.proofs.index.EntryIndex.first_of.Goals as goal

pub returns-clause-none : goal.returns-clause-none
returns-clause-none c =
    if_none-then c.first_under.result _ _ (λ failed. none-sought c.args.sought.now c.self.inside.noted.keys
    c.args.entries.now.entries (rw (← c.self.view_is) at c.requires.noted) c.requires.numbers c.requires.small
    failed) c.first_under.ensures.none
