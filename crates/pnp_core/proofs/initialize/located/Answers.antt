use Rattle.std.proofs.Common.{append_assoc, map, ◌∙◌}
use Rattle.std.proofs.lemmas.List.{map-append}
use Rattle.pnp_core.specs.Manifest.{rows, rows_under}
use Rattle.pnp_core.specs.ManifestReading.{located_rows, located_registry}
use Rattle.pnp_core.proofs.Relocations.{overlaid-append}
use Rattle.pnp_core.proofs.initialize.located.Goals as goal

pub loop-name-preserved : goal.loop-name-preserved
loop-name-preserved c = (
  tt,
  tt,
  rw (c.in_ok-push.ensures.items, map-append, append_assoc, c.in_ok-locate_rows.ensures.locations)
      (rw c.in-Some.ensures.steps at c.loop-name.invariant.2),
  λ p path.
      let left = rw c.in-Some.ensures.steps at (c.loop-name.invariant.3 p path) in
      overlaid-append (rows_under (c.in-Some.name.now, located_rows c.args.folder.now c.in-Some.references.now.entries))
      (rows (located_registry c.args.folder.now (map (λ named. (named.0, named.1.entries)) c.next.new.self)))
      c.loop-name.trie c.locate_rows.new.trie p (c.in_ok-locate_rows.ensures.trie p path)
      ∙ left,
)
