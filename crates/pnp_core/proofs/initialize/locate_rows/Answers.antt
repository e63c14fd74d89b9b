use Rattle.std.proofs.Common.{append_assoc, [], ◌∷◌, ◌∙◌}
use Rattle.pnp_core.specs.Manifest.{locator, rows_under}
use Rattle.pnp_core.specs.ManifestReading.{located, located_rows}
use Rattle.pnp_core.proofs.Relocations.{overlaid-append}
use Rattle.pnp_core.proofs.initialize.locate_rows.Goals as goal

pub loop-reference-preserved : goal.loop-reference-preserved
loop-reference-preserved c = (
  tt,
  tt,
  rw (c.in_ok-push.ensures.items, append_assoc, c.in_ok-locate_row.ensures.location)
      (rw c.in-Some.ensures.steps at c.loop-reference.invariant.2),
  λ p path.
      let left = rw c.in-Some.ensures.steps at (c.loop-reference.invariant.3 p path) in
      overlaid-append ((
        locator c.args.name.now c.in-Some.reference.now,
        located c.args.folder.now c.in-Some.package.now,
      ) ∷ [])
      (rows_under (c.args.name.now, located_rows c.args.folder.now c.next.new.self)) c.loop-reference.trie
      c.locate_row.new.trie p (c.in_ok-locate_row.ensures.trie p path)
      ∙ left,
)
