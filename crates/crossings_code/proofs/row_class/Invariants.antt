-- `crossings_code::row_class`. The invariant: the first j rectangles cover no end.
use Prim.Native.Nat.{◌-◌}
use Rattle.plan.specs.Plan.{layers_of}
use Rattle.join.specs.Join.{rects}
use Rattle.rows_code.specs.Reading.{widened}
use Rattle.crossings.proofs.Classes.{Seeking}
use Rattle.crossings_code.proofs.row_class.Given as goal

abbrev pub invariant-loop-j : goal.invariant-loop-j
invariant-loop-j l = let d = l.drawing in Seeking (rects (layers_of d.sizes.now (widened d.sizes.now d.margins.now d.cells.now)) l.row) l.h l.v (l.k - 2) l.j
