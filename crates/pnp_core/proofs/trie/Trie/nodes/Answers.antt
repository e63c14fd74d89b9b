use Rattle.std.proofs.Common.{◌≡◌, length, max, ap, ◌∙◌, rules}
use Rattle.pnp_core.proofs.TrieCounts.{counts_all}
use Rattle.pnp_core.proofs.trie.Trie.nodes.Goals as goal

pub returns : goal.returns
returns g c =
    let size : c.len.result ≡ length c.self.inside.nodes.items = search rules in
    rw (← c.self.view_is) (counts_all c.self.inside.nodes.items c.max.result c.self.invariant.0 c.self.invariant.1
    (c.max.ensures ∙ ap (λ n. max n 1) size))
