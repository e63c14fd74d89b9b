use Rattle.std.proofs.Common.{◌∙◌, map}
use Rattle.pnp_core.specs.Manifest.{rows, rows_under}
use Rattle.pnp_core.proofs.Relocations.{overlaid-append}
use Rattle.pnp_core.proofs.copies.trie_of.Goals as goal

pub loop-name-preserved : goal.loop-name-preserved
loop-name-preserved c = (
  tt,
  tt,
  λ p path.
      let left = rw c.in-Some.ensures.steps at (c.loop-name.invariant.2 p path) in
      overlaid-append (rows_under (c.in-Some.name.now, c.in-Some.references.now.entries))
      (rows (map (λ named. (named.0, named.1.entries)) c.next.new.self)) c.loop-name.trie c.put_rows.new.trie p
      (c.in_ok-put_rows.ensures p path)
      ∙ left,
)
