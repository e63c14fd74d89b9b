use Rattle.std.proofs.Common.{arith}
use Rattle.sugar_path.proofs.RouteTexts.{ends-byte}
use Rattle.sugar_path.proofs.reading.ends_in_slash.Goals as goal

pub returns-in-Some : goal.returns-in-Some
returns-in-Some c = ends-byte c.args.path.now c.in-Some.last.now (omega (arith, c.in-Some.ensures.item.3.0))
    (c.in-Some.ensures.item.4 (omega arith) 0)
