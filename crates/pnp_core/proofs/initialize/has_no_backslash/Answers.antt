use Rattle.std.proofs.Common.{not, ap, ◌∙◌}
use Rattle.pnp_core.proofs.Slashes.{slashed-lacks}
use Rattle.pnp_core.proofs.initialize.has_no_backslash.Goals as goal

pub returns : goal.returns
returns c = λ is. slashed-lacks c.args.text.now c.memchr.result (rw c.as_bytes.ensures.value at c.memchr.ensures)
    (c.is_none.ensures ∙ ap not is)
