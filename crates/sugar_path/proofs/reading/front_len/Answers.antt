use Rattle.std.proofs.Common.{take, max, ap, ◌∙◌}
use Rattle.sugar_path.proofs.RouteTexts.{cut-at_slash}
use Rattle.sugar_path.proofs.reading.front_len.Goals as goal

pub returns-clause-front : goal.returns-clause-front
returns-clause-front c = λ front n stands name is.
    ap (λ k. take k c.args.text.now) (c.max.ensures ∙ ap (max c.args.base) c.unwrap_or-slash.ensures)
    ∙ cut-at_slash c.args.text.now front n c.args.base c.memrchr.result stands name is c.memrchr.ensures
