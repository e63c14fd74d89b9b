use Rattle.std.proofs.Common.{take, sym, ap, ◌∙◌}
use Rattle.pnp_core.proofs.FirstNames.{before_first-found, before_first-none}
use Rattle.pnp_core.proofs.Payloads.{from_start}
use Rattle.pnp_core.proofs.trie_nodes.first_of.Goals as goal

pub returns-in-Some : goal.returns-in-Some
returns-in-Some c =
    c.range.ensures.value ∙ ap (λ n. take n c.args.names.now) (from_start c.in-Some.end)
    ∙ sym (before_first-found c.args.names.now c.in-Some.end (rw c.as_bytes.ensures.value at c.in-Some.ensures))

pub returns-in-None : goal.returns-in-None
returns-in-None c = sym (before_first-none c.args.names.now (rw c.as_bytes.ensures.value at c.in-None.ensures))
