use Rattle.std.proofs.Common.{sym, ◌∙◌, ap, rules}
use Rattle.yarn_lock_parser.proofs.Every.{every-none, every-more, onto, onto-push, onto-end}
use Rattle.yarn_lock_parser.proofs.Shorter.{meta_at-shortens}
use Rattle.yarn_lock_parser.proofs.metas.every_meta.Goals as goal

pub loop-meta-smaller : goal.loop-meta-smaller
loop-meta-smaller c = meta_at-shortens _ _ _ (sym c.in-Some.ensures)

pub loop-meta-preserved : goal.loop-meta-preserved
loop-meta-preserved c =
    let more = every-more _ (meta_at-shortens c.args.indent.now) c.loop-meta.rest.now _ (sym c.in-Some.ensures) in (
      search rules,
      rw c.in_ok-push.ensures.items (onto-push c.loop-meta.found.items c.in-Some.meta _
          ∙ ap (onto c.loop-meta.found.items) (sym more) ∙ c.loop-meta.invariant.1),
    )

pub returns : goal.returns
returns c =
    let none = every-none _ c.loop-meta.rest.now (sym c.in_default.ensures) in
    sym (ap (onto c.loop-meta.found.items) none ∙ onto-end c.loop-meta.found.items c.loop-meta.rest.now)
    ∙ c.loop-meta.invariant.1
