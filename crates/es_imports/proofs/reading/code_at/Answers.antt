use Rattle.std.proofs.Common.{Ok, ap, arith, sym, ◌∙◌}
use Rattle.es_imports.proofs.Alone.{alone_at}
use Rattle.es_imports.proofs.reading.code_at.Goals as goal

pub returns-in-len1-up-clause-value : goal.returns-in-len1-up-clause-value
returns-in-len1-up-clause-value c =
    let some = c.in-len1-up.len_at_least in
    ap Ok c.new.ensures
    ∙ sym (alone_at c.args.goal c.args.text.now (omega arith) (sym c.stands_alone.ensures ∙ c.if-stands_alone.true))
