use Rattle.std.proofs.Common.{arith}
use Rattle.trail_bundle.proofs.Readings.{all_bytes}
use Rattle.trail_bundle.proofs.line_reading.items_are_bytes.Goals as goal

pub returns : goal.returns
returns c = all_bytes c.args.items.now (λ k. let fits = c.type_inv.items k in omega arith)
