use Rattle.std.proofs.Common.{[], ◌∷◌, ◌∙◌}
use Rattle.pnp_core.specs.Manifest.{locator, rows_under}
use Rattle.pnp_core.proofs.Relocations.{overlaid-append}
use Rattle.pnp_core.proofs.copies.put_rows.Goals as goal

pub loop-reference-preserved : goal.loop-reference-preserved
loop-reference-preserved c = (
  tt,
  tt,
  λ p path.
      let left = rw c.in-Some.ensures.steps at (c.loop-reference.invariant.2 p path) in
      overlaid-append ((locator c.args.name.now c.in-Some.reference.now, c.in-Some.package.now) ∷ [])
      (rows_under (c.args.name.now, c.next.new.self)) c.loop-reference.trie c.put_row.new.trie p
      (c.in_ok-put_row.ensures p path)
      ∙ left,
)
