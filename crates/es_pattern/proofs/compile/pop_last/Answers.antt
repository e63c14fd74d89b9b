use Rattle.std.proofs.Common.{◌∙◌, arith}
use Rattle.es_pattern.proofs.Compiling.{popped_some, popped_none}
use Rattle.es_pattern.proofs.compile.pop_last.Goals as goal

pub returns-in-Some-clause-program : goal.returns-in-Some-clause-program
returns-in-Some-clause-program c =
    (popped_some c.args.programs.now.items c.pop.new.self.items c.in-Some.program c.in-Some.ensures.items).0

pub returns-in-Some-clause-others : goal.returns-in-Some-clause-others
returns-in-Some-clause-others c =
    (popped_some c.args.programs.now.items c.pop.new.self.items c.in-Some.program c.in-Some.ensures.items).1

pub returns-in-None-clause-program : goal.returns-in-None-clause-program
returns-in-None-clause-program c = c.new.ensures.items
    ∙ (popped_none c.args.programs.now.items c.pop.new.self.items
    (omega (arith, c.in-None.ensures.cases, c.args.programs.now.ok.0)) c.in-None.ensures.items).0

pub returns-in-None-clause-others : goal.returns-in-None-clause-others
returns-in-None-clause-others c = (popped_none c.args.programs.now.items c.pop.new.self.items
    (omega (arith, c.in-None.ensures.cases, c.args.programs.now.ok.0)) c.in-None.ensures.items).1
