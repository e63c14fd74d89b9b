use Rattle.std.proofs.Common.{ap, is_err}
use Rattle.cli_core.proofs.OnDisk.{
  asks_by_cause,
  asks_cut,
  asks_disk_fault,
  asks_in_conflict,
  asks_starved,
  asks_whole,
}
use Rattle.cli_core.proofs.on_disk.ask_disk.Goals as goal

pub returns-in-Err-Refused-clause-asks : goal.returns-in-Err-Refused-clause-asks
returns-in-Err-Refused-clause-asks g c =
    let is = rw c.in-Err-Refused.field-0-is at c.in-Err-Refused.ensures.refused in
    asks_by_cause _ _ is (record {
      refused = c.tell_cause.ensures.refused;
      cut = c.tell_cause.ensures.cut;
      ends = c.tell_cause.ensures.ends;
      unasked = ap g.T.Tree.state (c.text_on_tree.ensures.unasked (ap is_err is));
    })

pub returns-in-Err-TreeFault-clause-asks : goal.returns-in-Err-TreeFault-clause-asks
returns-in-Err-TreeFault-clause-asks g c =
    let accepted = rw c.in-Err-TreeFault.field-0-is at c.in-Err-TreeFault.ensures.refused in
    let rose = rw c.in-Err-TreeFault.field-0-is at c.in-Err-TreeFault.ensures.cause in
    asks_disk_fault _ accepted rose

pub returns-in-Err-TwoReplies-clause-asks : goal.returns-in-Err-TwoReplies-clause-asks
returns-in-Err-TwoReplies-clause-asks g c =
    asks_in_conflict _ (rw c.in-Err-TwoReplies.field-0-is at c.in-Err-TwoReplies.ensures.refused)

pub returns-in-Err-NoMemory-clause-asks : goal.returns-in-Err-NoMemory-clause-asks
returns-in-Err-NoMemory-clause-asks g c =
    asks_starved _ (λ cause is. ap g.T.Tree.state (c.text_on_tree.ensures.unasked (ap is_err is)))

pub returns-in-Ok-write_all-clause-asks : goal.returns-in-Ok-write_all-clause-asks
returns-in-Ok-write_all-clause-asks g c =
    asks_whole _ _ _ c.in-Ok.ensures.told c.as_bytes.ensures.value c.in-Ok-write_all.ensures.all

pub returns-clause-asks : goal.returns-clause-asks
returns-clause-asks g c =
    asks_cut _ _ _ c.in-Ok.ensures.told c.as_bytes.ensures.value c.in-Err.ensures.front c.in-Err.ensures.counted.1
