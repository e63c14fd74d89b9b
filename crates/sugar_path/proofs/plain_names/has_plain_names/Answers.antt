use Rattle.std.proofs.Common.{refl, sym, ◌∙◌, arith}
use Rattle.sugar_path.proofs.PlainNames.{names-plain, starts-all}
use Rattle.sugar_path.proofs.plain_names.has_plain_names.Goals as goal

pub returns : goal.returns
returns c = λ clear.
    names-plain c.args.path.now (omega (arith, c.if-path-le-BLOCK.false))
    (c.begins_with_name.ensures c.if-not-begins_with_name.false)
    (starts-all c.args.path.now c.loop-at.at _ c.if-path-le-BLOCK.false refl c.loop-at-test.false c.loop-at.invariant
    (c.begin_behind_slashes-2.ensures clear))
    (sym c.ends_in_slash.ensures ∙ c.if-ends_in_slash.false)
