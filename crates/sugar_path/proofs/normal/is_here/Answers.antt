use Rattle.std.proofs.Common.{not, sym, ap, ◌∙◌}
use Rattle.sugar_path.proofs.Heres.{here-open, here-closed}
use Rattle.sugar_path.proofs.normal.is_here.Goals as goal

pub returns-then-not-ends_in_slash : goal.returns-then-not-ends_in_slash
returns-then-not-ends_in_slash c = here-open c.args.path.now c.leads_back.result
    (sym c.ends_in_slash.ensures ∙ c.if-not-ends_in_slash.true) c.leads_back.ensures

pub returns-else-not-ends_in_slash : goal.returns-else-not-ends_in_slash
returns-else-not-ends_in_slash c = ap not c.if-not-ends_in_slash.false
    ∙ here-closed c.args.path.now (sym c.ends_in_slash.ensures ∙ c.if-not-ends_in_slash.false)
