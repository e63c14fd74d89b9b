use Rattle.std.proofs.Common.{rules}
use Rattle.pnp_core.proofs.Slashes.{ends_in_slash-last}
use Rattle.pnp_core.proofs.normalize.with_end.Goals as goal

pub returns-then-not-ends_with : goal.returns-then-not-ends_with
returns-then-not-ends_with c = rw ends_in_slash-last (search rules)

pub returns-then-ends_with : goal.returns-then-ends_with
returns-then-ends_with c = rw (ends_in_slash-last c.args.text.now) (rw ends_in_slash-last (search rules))

pub returns : goal.returns
returns c = rw (ends_in_slash-last c.args.text.now) (rw ends_in_slash-last (search rules))
