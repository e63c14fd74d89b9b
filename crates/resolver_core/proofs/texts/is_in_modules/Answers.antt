use Rattle.std.proofs.Common.{lit<, rules}
use Rattle.std.proofs.lemmas.Iterator.Search.{any_from_yields_List}
use Rattle.std.proofs.lemmas.Iterator.Splits.{YieldsList-from_str_split}
use Rattle.resolver_core.specs.Mapping.{is_modules}
use Rattle.resolver_core.proofs.texts.is_in_modules.Goals as goal

pub returns-in-Real : goal.returns-in-Real
returns-in-Real c =
    rw (c.in-Real.is, ← c.as_str.ensures)
    (any_from_yields_List is_modules _ _ _ c.any.ensures.ran
    (YieldsList-from_str_split 47 c.as_str.result.now (lit< tt) c.split.ensures.text c.split.ensures.has_more
    c.split.ensures.pattern) (λ x b q k. search rules))
