use Rattle.swc_loader.proofs.Shapes.{ShapeOf, texts_of}
use Rattle.swc_loader.proofs.shape.shape_of.Given as goal

-- the shape of the parts so far
abbrev pub invariant-loop-part : goal.invariant-loop-part
invariant-loop-part l =
    (goal.iterator-loop-part).can_next l.part-iterator ×
    (goal.iterator-loop-part).is_finite l.part-iterator ×
    ShapeOf l.named l.closed (texts_of l.yielded)
