use Rattle.sugar_path.proofs.Heres.{folder-roots, folder-ups}
use Rattle.sugar_path.proofs.normal.needs_folder.Goals as goal

pub returns-then-is_absolute : goal.returns-then-is_absolute
returns-then-is_absolute c = folder-roots c.args.base.now c.args.target.now c.is_absolute.result c.is_absolute-2.result
    c.is_absolute.ensures c.is_absolute-2.ensures c.if-is_absolute.true

pub returns-else-is_absolute : goal.returns-else-is_absolute
returns-else-is_absolute c =
    folder-ups c.args.base.now c.args.target.now c.is_absolute.result c.is_absolute-2.result _ _ c.is_absolute.ensures
    c.is_absolute-2.ensures c.if-is_absolute.false c.ups_of.ensures c.ups_of-else-is_absolute.ensures
