use Rattle.std.proofs.Common.{sym, ◌∙◌}
use Rattle.sugar_path.proofs.Heres.{rooted-ups, loose-ups}
use Rattle.sugar_path.proofs.normal.ups_of.Goals as goal

pub returns-then-is_absolute : goal.returns-then-is_absolute
returns-then-is_absolute c = rooted-ups c.args.path.now (sym c.is_absolute.ensures ∙ c.if-is_absolute.true)

pub returns : goal.returns
returns c =
    loose-ups c.args.path.now c.climb_of.result (sym c.is_absolute.ensures ∙ c.if-is_absolute.false) c.climb_of.ensures
