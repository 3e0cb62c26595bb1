-- `put_shapes` writes rectangle after rectangle. The loop's invariant: those from p on are left.
use Rattle.picture.proofs.Shapes.{Undrawn}
use Rattle.picture_code.proofs.shapes.put_shapes.Given as goal

abbrev pub invariant-loop-p : goal.invariant-loop-p
invariant-loop-p l = Undrawn l.unit l.layer l.margin l.cells l.size l.initial.pen l.pen l.p
