use Rattle.std.proofs.Common.{sym}
use Rattle.npm_req.proofs.Components.{four_parts}
use Rattle.npm_req.proofs.partial.components.Goals as goal

pub returns-in-Some-rest-2-clause-read : goal.returns-in-Some-rest-2-clause-read
returns-in-Some-rest-2-clause-read c =
    let first = rw c.in-Some.is at c.before_dot.ensures in
    let second = rw c.in-Some-rest.is at c.before_dot-2.ensures in
    let third = rw c.in-Some-rest-2.is at c.before_dot-3.ensures in
    sym (rw (first, second, third) (four_parts c.before_dot.result.0.now c.before_dot-2.result.0.now
    c.before_dot-3.result.0.now c.in-Some-rest-2.field-0.now))
