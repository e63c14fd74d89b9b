use Rattle.std.proofs.Common.{None, not, Err, refl, ap, ◌∙◌}
use Rattle.tree_core.proofs.Asking.{asks_done}
use Rattle.resolve_stack.specs.declared.verdict.JoinRefusal.TheVariants.{NotExported}
use Rattle.resolve_stack.proofs.ExportedFiles.{asks_by_exports, asks_target, none_mapped, some_mapped}
use Rattle.resolve_stack.proofs.exports.file_by_exports.Goals as goal

pub returns-then-is_none : goal.returns-then-is_none
returns-then-is_none g c =
    asks_by_exports c.args.conditions.now c.args.location.now c.args.key None _
    (none_mapped _ _ (c.is_none.ensures ∙ ap not c.if-is_none.true)) (asks_done refl)

pub returns-in_ok-to_text-in-None : goal.returns-in_ok-to_text-in-None
returns-in_ok-to_text-in-None g c =
    asks_target c.args.conditions.now c.args.location.now c.args.key _ None
    (some_mapped _ _ (c.is_none.ensures ∙ ap not c.if-is_none.false))
    (rw (c.in-None.is, c.as_str.ensures) at c.in_ok-target.ensures)
    (asks_done (ap (λ text. Err (NotExported text c.args.key)) c.in_ok-to_text-in-None.ensures.text))
