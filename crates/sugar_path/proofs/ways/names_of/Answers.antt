use Rattle.std.proofs.Common.{[], ap, ◌∙◌, reverse, rules}
use Rattle.std.proofs.lemmas.Iterator.Consumers.{YieldsList-end, YieldsList-at, YieldsList-from_first}
use Rattle.sugar_path.specs.Path.{by_parts, parts, path_in}
use Rattle.sugar_path.proofs.NameWays.{names-stay, names-up, names-down}
use Rattle.sugar_path.proofs.ways.names_of.Goals as goal

pub loop-part-preserved-in-Nowhere : goal.loop-part-preserved-in-Nowhere
loop-part-preserved-in-Nowhere c = (
  search rules,
  search rules,
  names-stay c.loop-part.names.items c.loop-part.yielded c.in-Some.part c.loop-part.invariant.2 c.in-Nowhere.ensures,
)

pub loop-part-preserved-in-Up : goal.loop-part-preserved-in-Up
loop-part-preserved-in-Up c = (
  search rules,
  search rules,
  names-up c.loop-part.names.items c.pop-last.new.self.items c.loop-part.yielded c.in-Some.part c.loop-part.invariant.2
      c.in-Up.ensures c.pop-last.ensures.rest,
)

pub loop-part-preserved : goal.loop-part-preserved
loop-part-preserved c = (
  search rules,
  search rules,
  names-down c.loop-part.names.items c.push.new.self.items c.loop-part.yielded c.in-Some.part c.loop-part.invariant.2
      c.in-Down.ensures c.in_ok-push-in-Down.ensures.ok,
)

pub returns : goal.returns
unfolding path_in
returns c =
    let all = YieldsList-end (YieldsList-at c.into_iter-part-iterator.ensures.into_iter_gives
    (YieldsList-from_first (λ part. part.now) (λ left. left) (parts c.args.path.now) c.of-part-items.ensures))
    c.loop-part.yielded _ c.loop-part.yielded_by _ _ c.in-None.is c.next.ensures.steps in
    c.loop-part.invariant.2 ∙ ap (λ ps. reverse (by_parts [] ps)) all.0
