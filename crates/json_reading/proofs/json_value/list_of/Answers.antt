use Rattle.json_reading.proofs.ListedMembers.{listed-shown, NamesRise-shown, told-all}
use Rattle.json_reading.proofs.json_value.list_of.Goals as goal

pub returns-clause-members : goal.returns-clause-members
returns-clause-members c =
    listed-shown _ _ (told-all _ _ _ c.in-None.ensures.steps.0 c.loop-name.invariant.2)

pub returns-clause-rise : goal.returns-clause-rise
returns-clause-rise c =
    NamesRise-shown _ _ (told-all _ _ _ c.in-None.ensures.steps.0 c.loop-name.invariant.2) c.len.ensures.ordered
