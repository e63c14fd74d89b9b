use Rattle.std.proofs.Common.{◌≡◌, length, map, sym, ◌∙◌, rules}
use Rattle.std.proofs.lemmas.List.{map-append, length-map}
use Rattle.pnp_core.proofs.Relocations.{changed-rows, changed-rows-past}
use Rattle.pnp_core.proofs.initialize.place_all.Goals as goal

pub loop-found-preserved-in-Some-get_index_mut : goal.loop-found-preserved-in-Some-get_index_mut
loop-found-preserved-in-Some-get_index_mut c =
    let popped = rw c.in-Some.is at c.pop.ensures.items in
    let index : c.len.result ≡ length c.pop.new.self.items = search rules in
    let texts : c.len.result ≡ length (map (λ found. found.items) c.pop.new.self.items) = rw length-map index in
    changed-rows c.loop-found.registry.entries (map (λ found. found.items) c.pop.new.self.items) c.in-Some.found.items
    c.len.result c.in-Some-get_index_mut.references.now c.place.new.references texts
    (sym c.in-Some-get_index_mut.ensures.value) c.place.ensures
    ∙ (rw (popped, map-append) at c.loop-found.invariant)

pub loop-found-preserved : goal.loop-found-preserved
loop-found-preserved c =
    let popped = rw c.in-Some.is at c.pop.ensures.items in
    let index : c.len.result ≡ length c.pop.new.self.items = search rules in
    let texts : c.len.result ≡ length (map (λ found. found.items) c.pop.new.self.items) = rw length-map index in
    let past = rw c.in_default-get_index_mut.is at c.get_index_mut.ensures.value in
    changed-rows-past c.loop-found.registry.entries (map (λ found. found.items) c.pop.new.self.items)
    c.in-Some.found.items c.len.result texts (sym past)
    ∙ (rw (popped, map-append) at c.loop-found.invariant)
