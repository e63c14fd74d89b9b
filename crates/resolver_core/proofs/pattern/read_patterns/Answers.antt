use Rattle.std.proofs.Common.{vec_len}
use Rattle.std.specs.Vec.Iter.{into_iter_items}
use Rattle.resolver_core.proofs.Patterns.{after-more}
use Rattle.resolver_core.proofs.pattern.read_patterns.Goals as goal

pub loop-text-preserved : goal.loop-text-preserved
loop-text-preserved c =
    let left = rw c.in-Some.ensures.steps.0 at c.loop-text.invariant.2 in
    let read = rw c.len.ensures at c.in_ok-pattern.ensures in
    let more = after-more c.loop-text.patterns.items (vec_len c.loop-text.patterns) (c.in-Some.text, c.in-Some.targets)
    (into_iter_items c.next.new.self) read left in
    let items = rw c.if-is_err.ensures.negation at c.push.ensures.items in
    let len = rw c.if-is_err.ensures.negation at c.push.ensures.len in
    (tt, tt, rw (items, len) more)
