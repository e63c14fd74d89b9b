use Rattle.std.proofs.Common.{map, sym, ◌∙◌}
use Rattle.std.specs.Vec.Iter.{into_iter_items}
use Rattle.json.specs.Value.{value_view}
use Rattle.serde_json.specs.Find.{as_str}
use Rattle.json_reading.specs.Borrowed.{data_of}
use Rattle.json_reading.specs.Reading.{nullable_by, pair_by}
use Rattle.pnp_core.specs.ManifestReading.{references_in}
use Rattle.pnp_core.proofs.Owners.{map-insert-rows}
use Rattle.pnp_core.proofs.PairReadings.{read_named-first}
use Rattle.pnp_core.proofs.readers.registry_of_rows.Goals as goal

pub loop-row-preserved-in_ok-insert : goal.loop-row-preserved-in_ok-insert
loop-row-preserved-in_ok-insert c =
    let left = rw c.in-Some.ensures.steps.0 at c.loop-row.invariant.2 in
    let first = read_named-first (pair_by (nullable_by as_str) references_in) (λ v. data_of (value_view v))
    (map (λ named. (named.0, named.1.entries)) c.loop-row.map.entries) c.in-Some.row
    (into_iter_items c.next.new.self) (c.in_ok-name.name, c.in_ok-name.references) c.in_ok-name.ensures in
    (tt, tt, rw (c.in_ok-insert.ensures.entries, map-insert-rows, c.references.view_is) (sym first ∙ left))

pub loop-row-preserved : goal.loop-row-preserved
loop-row-preserved c =
    let left = rw c.in-Some.ensures.steps.0 at c.loop-row.invariant.2 in
    let first = read_named-first (pair_by (nullable_by as_str) references_in) (λ v. data_of (value_view v))
    (map (λ named. (named.0, named.1.entries)) c.loop-row.map.entries) c.in-Some.row
    (into_iter_items c.next.new.self) (c.in_ok-name.name, c.in_ok-name.references) c.in_ok-name.ensures in
    (tt, tt, rw (c.in_ok-insert.ensures.entries, map-insert-rows, c.references.view_is) (sym first ∙ left))
