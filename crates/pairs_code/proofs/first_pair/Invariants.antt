-- `pairs_code::first_pair`. The invariant: the first pair among the layers left is the first of all.
use Rattle.rows_code.specs.Reading.{widened}
use Rattle.pairs.proofs.Scanning.{Paired}
use Rattle.pairs_code.proofs.first_pair.Given as goal

abbrev pub invariant-loop-i : goal.invariant-loop-i
invariant-loop-i l = Paired l.sizes (widened l.sizes l.drawing.margins.now l.drawing.cells.now) l.row l.start l.i
