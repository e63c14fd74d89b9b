use Rattle.std.proofs.Common.{append_assoc, map}
use Rattle.std.proofs.lemmas.List.Concat.{flat_map-append}
use Rattle.pnp_core.specs.Manifest.{rows, rows_under}
use Rattle.lock_audit.specs.Edges.{edges_of_row}
use Rattle.lock_audit.proofs.edges.edges_in.Goals as goal

pub loop-name-preserved : goal.loop-name-preserved
loop-name-preserved c = (
  tt,
  tt,
  rw (
    c.in_ok-put_rows.ensures,
    append_assoc,
    ← flat_map-append edges_of_row (rows_under (c.in-Some.name.now, c.in-Some.references.now.entries))
        (rows (map (λ named. (named.0, named.1.entries)) c.next.new.self)),
  )
      (rw c.in-Some.ensures.steps at c.loop-name.invariant.2),
)
