use Rattle.std.proofs.Common.{sym, ◌∙◌}
use Rattle.sugar_path.proofs.Heres.{rooted-start, loose-depth, loose-above}
use Rattle.sugar_path.proofs.normal.leads_back.Goals as goal

pub returns-then-is_absolute : goal.returns-then-is_absolute
returns-then-is_absolute c = rooted-start c.args.path.now (sym c.is_absolute.ensures ∙ c.if-is_absolute.true)

pub returns-then-climb-eq0 : goal.returns-then-climb-eq0
returns-then-climb-eq0 c = loose-depth c.args.path.now c.climb_of-climb.result
    (sym c.is_absolute.ensures ∙ c.if-is_absolute.false) c.climb_of-climb.ensures c.if-climb-eq0.true

pub returns-else-climb-eq0 : goal.returns-else-climb-eq0
returns-else-climb-eq0 c = loose-above c.args.path.now c.climb_of-climb.result
    (sym c.is_absolute.ensures ∙ c.if-is_absolute.false) c.climb_of-climb.ensures c.if-climb-eq0.false
