-- `rows_code::share`. The invariant: from the ground so far, the rectangles of the layers that are left lead to what all of them share.
--
use Rattle.rows.proofs.Grounds.{Through}
use Rattle.rows_code.specs.Reading.{widened}
use Rattle.rows_code.proofs.share.Given as goal

abbrev pub invariant-loop-j : goal.invariant-loop-j
invariant-loop-j l = Through l.sizes (widened l.sizes l.drawing.margins.now l.drawing.cells.now) l.row l.g l.start l.j
