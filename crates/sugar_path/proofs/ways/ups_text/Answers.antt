use Rattle.sugar_path.proofs.NameWays.{closed-up}
use Rattle.sugar_path.proofs.ways.ups_text.Goals as goal

pub loop-preserved : goal.loop-preserved
loop-preserved c = closed-up c.loop.counter c.loop.text.items c.extend_from_slice.new.self.items c.loop.invariant
    c.in_ok-extend_from_slice.ensures.items
