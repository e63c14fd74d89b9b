use Rattle.std.proofs.Common.{arith}
use Rattle.es_pattern.proofs.Beginning.{popped_some, popped_none}
use Rattle.es_pattern.proofs.begins.pop_last.Goals as goal

pub returns-in-Some-clause-last : goal.returns-in-Some-clause-last
returns-in-Some-clause-last c =
    (popped_some c.args.begins.now.items c.pop.new.self.items c.in-Some.begin c.in-Some.ensures.items).0

pub returns-in-Some-clause-others : goal.returns-in-Some-clause-others
returns-in-Some-clause-others c =
    (popped_some c.args.begins.now.items c.pop.new.self.items c.in-Some.begin c.in-Some.ensures.items).1

pub returns-in-None-clause-last : goal.returns-in-None-clause-last
returns-in-None-clause-last c = (popped_none c.args.begins.now.items c.pop.new.self.items
    (omega (arith, c.in-None.ensures.cases, c.args.begins.now.ok.0)) c.in-None.ensures.items).0

pub returns-in-None-clause-others : goal.returns-in-None-clause-others
returns-in-None-clause-others c = (popped_none c.args.begins.now.items c.pop.new.self.items
    (omega (arith, c.in-None.ensures.cases, c.args.begins.now.ok.0)) c.in-None.ensures.items).1
