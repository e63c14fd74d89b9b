use Rattle.std.proofs.Common.{sym, rules}
use Rattle.yarn_lock_parser.specs.Metas.{property_at}
use Rattle.yarn_lock_parser.proofs.Every.{every-none, every-more}
use Rattle.yarn_lock_parser.proofs.Shorter.{property_at-shortens}
use Rattle.yarn_lock_parser.proofs.metas.further_flag.Goals as goal

pub loop-key-smaller : goal.loop-key-smaller
loop-key-smaller c = property_at-shortens _ _ _ (sym c.in-Some.ensures)

pub loop-key-preserved : goal.loop-key-preserved
loop-key-preserved c =
    let more = every-more (property_at c.args.indent.now) (property_at-shortens c.args.indent.now) c.loop-key.rest.now _
    (sym c.in-Some.ensures) in
    let flag = rw more at c.loop-key.invariant.flag in
    let rest = rw more at c.loop-key.invariant.rest in
    record { text = search rules; flag = rw c.noted-flag.ensures flag; rest = rest }

pub returns : goal.returns
returns c =
    let none = every-none (property_at c.args.indent.now) c.loop-key.rest.now (sym c.in_default.ensures) in
    record { flag = rw none at c.loop-key.invariant.flag; rest = rw none at c.loop-key.invariant.rest }
