-- `pairs_code::apart_from`. The invariant: the first that does not meet r among the layers left is the first among all.
use Rattle.rows_code.specs.Reading.{widened}
use Rattle.pairs.proofs.Scanning.{Met}
use Rattle.pairs_code.proofs.apart_from.Given as goal

abbrev pub invariant-loop-j : goal.invariant-loop-j
invariant-loop-j l = Met l.r l.sizes (widened l.sizes l.drawing.margins.now l.drawing.cells.now) l.row l.before l.after l.start l.j
