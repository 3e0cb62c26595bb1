-- `crossing_report_code::count_classes`. The invariant: the counts so far and those of the rows that are left are those of all.
use Rattle.rows_code.specs.Reading.{widened}
use Rattle.crossing_report_code.proofs.Counting.{Counting}
use Rattle.crossing_report_code.proofs.count_classes.Given as goal

abbrev pub invariant-loop : goal.invariant-loop
invariant-loop l = let d = l.drawing in Counting d.sizes.now (widened d.sizes.now d.margins.now d.cells.now) l.table l.n l.counts l.start l.counter
