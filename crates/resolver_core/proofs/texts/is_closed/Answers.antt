use Rattle.std.proofs.Common.{◌∙◌, sym, lit<}
use Rattle.resolver_core.proofs.TextParts.{closed-last}
use Rattle.resolver_core.proofs.texts.is_closed.Goals as goal

pub returns-else-is_empty : goal.returns-else-is_empty
returns-else-is_empty c =
    closed-last c.args.folder.now c.ends_with.result (sym c.is_empty.ensures ∙ c.if-is_empty.false)
    (c.ends_with.ensures.byte (lit< tt) (lit< tt) (λ _ _ h. h))
