use Rattle.std.proofs.Common.{◌≡◌, length, sym, ◌∙◌, rules}
use Rattle.pnp_core.specs.Relocated.{placed}
use Rattle.pnp_core.proofs.Relocations.{changed-last, changed-past}
use Rattle.pnp_core.proofs.initialize.place.Goals as goal

pub loop-location-preserved-in-Some-get_index_mut : goal.loop-location-preserved-in-Some-get_index_mut
loop-location-preserved-in-Some-get_index_mut c =
    let popped = rw c.in-Some.is at c.pop.ensures.items in
    let index : c.len.result ≡ length c.pop.new.self.items = search rules in
    let here = rw index at c.in-Some-get_index_mut.ensures.value in
    rw (index, c.relocate.ensures) (sym (changed-last placed c.loop-location.references.entries c.pop.new.self.items
    c.in-Some.location _ (sym here)) ∙ (rw popped at c.loop-location.invariant))

pub loop-location-preserved-in_default-get_index_mut : goal.loop-location-preserved-in_default-get_index_mut
loop-location-preserved-in_default-get_index_mut c =
    let popped = rw c.in-Some.is at c.pop.ensures.items in
    let index : c.len.result ≡ length c.pop.new.self.items = search rules in
    let past = rw (c.in_default-get_index_mut.is, index) at c.get_index_mut.ensures.value in
    sym (changed-past placed c.loop-location.references.entries c.pop.new.self.items c.in-Some.location (sym past))
    ∙ (rw popped at c.loop-location.invariant)

pub loop-location-preserved : goal.loop-location-preserved
loop-location-preserved c =
    let popped = rw c.in-Some.is at c.pop.ensures.items in
    let index : c.len.result ≡ length c.pop.new.self.items = search rules in
    let past = rw (c.in_default-get_index_mut.is, index) at c.get_index_mut.ensures.value in
    sym (changed-past placed c.loop-location.references.entries c.pop.new.self.items c.in-Some.location (sym past))
    ∙ (rw popped at c.loop-location.invariant)
