use Rattle.std.proofs.Common.{sym, ◌∙◌, ap, rules}
use Rattle.yarn_lock_parser.proofs.Every.{every-none, every-more, onto, onto-push, onto-end}
use Rattle.yarn_lock_parser.proofs.Shorter.{dependency_at-shortens}
use Rattle.yarn_lock_parser.proofs.dependencies.every_dependency.Goals as goal

pub loop-pair-smaller : goal.loop-pair-smaller
loop-pair-smaller c = dependency_at-shortens _ _ _ (sym c.in-Some.ensures)

pub loop-pair-preserved : goal.loop-pair-preserved
loop-pair-preserved c =
    let more = every-more _ (dependency_at-shortens c.args.indent.now) c.loop-pair.rest.now _ (sym c.in-Some.ensures) in (
      search rules,
      rw c.in_ok-push.ensures.items (onto-push c.loop-pair.found.items c.in-Some.pair _
          ∙ ap (onto c.loop-pair.found.items) (sym more) ∙ c.loop-pair.invariant.1),
    )

pub returns : goal.returns
returns c =
    let none = every-none _ c.loop-pair.rest.now (sym c.in_default.ensures) in
    sym (ap (onto c.loop-pair.found.items) none ∙ onto-end c.loop-pair.found.items c.loop-pair.rest.now)
    ∙ c.loop-pair.invariant.1
