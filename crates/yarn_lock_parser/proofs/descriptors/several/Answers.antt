use Rattle.std.proofs.Common.{sym, ◌∙◌, rules}
use Rattle.yarn_lock_parser.proofs.Parted.{found_at-end, found_at-none, found_at-more}
use Rattle.yarn_lock_parser.proofs.Shorter.{next_descriptor-shortens}
use Rattle.yarn_lock_parser.proofs.descriptors.several.Goals as goal

pub loop-descriptor-smaller : goal.loop-descriptor-smaller
loop-descriptor-smaller c = next_descriptor-shortens _ _ (sym c.in-Some.ensures)

pub loop-descriptor-preserved : goal.loop-descriptor-preserved
loop-descriptor-preserved c = (
  search rules,
  rw c.in_ok-push-in-Some-parted.ensures.items
      (found_at-more _ c.in-Some-parted.pair c.loop-descriptor.rest.now _ (sym c.in-Some.ensures)
      (sym c.in-Some-parted.ensures) ∙ c.loop-descriptor.invariant.1),
)

pub returns-in-None : goal.returns-in-None
returns-in-None c = sym (found_at-none c.loop-descriptor.found.items _ _ (sym c.in-Some.ensures)
    (sym c.in-None.ensures)) ∙ c.loop-descriptor.invariant.1

pub returns : goal.returns
returns c = sym (found_at-end c.loop-descriptor.found.items c.loop-descriptor.rest.now (sym c.in_default.ensures))
    ∙ c.loop-descriptor.invariant.1
