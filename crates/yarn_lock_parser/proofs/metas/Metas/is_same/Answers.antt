use Rattle.std.proofs.Common.{◌∙◌}
use Rattle.yarn_lock_parser.proofs.EqualMetas.{pointwise-as_meta}
use Rattle.yarn_lock_parser.proofs.metas.Metas.is_same.Goals as goal

pub returns : goal.returns
returns c =
    rw (← c.self.view_is, ← c.other.view_is)
    (c.eq.ensures ∙ pointwise-as_meta c.self.inside.metas.now c.other.inside.metas.now)
