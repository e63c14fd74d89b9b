use Rattle.std.proofs.Common.{refl, sym, ◌∙◌}
use Rattle.tree_core.proofs.Asking.{asks_done}
use Rattle.swc_loader.proofs.walk.in_modules.Goals as goal

pub returns-then-not-may_have_modules : goal.returns-then-not-may_have_modules
returns-then-not-may_have_modules g c =
    rw (sym c.may_have_modules.ensures ∙ c.if-not-may_have_modules.true) (asks_done refl)

pub returns : goal.returns
returns g c =
    rw (sym c.may_have_modules.ensures ∙ c.if-not-may_have_modules.false) c.in_its_modules.ensures
