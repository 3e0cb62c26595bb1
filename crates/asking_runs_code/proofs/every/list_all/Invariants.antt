-- `list_all` lists layer after layer. The loop's invariant: the layers from i on are left.
use Rattle.asking.specs.Pairs.{rows_with}
use Rattle.asking.specs.Lines.{two_line}
use Rattle.asking_runs_code.specs.Listing.{Lent}
use Rattle.asking_runs_code.proofs.Loops.{Going}
use Rattle.asking_runs_code.proofs.every.list_all.Given as goal

abbrev pub invariant-loop-i : goal.invariant-loop-i
invariant-loop-i l = Going (two_line l.shape l.cells) (λ n. rows_with l.shape l.cells l.layer n) 0 l.shape.k l.shape.k l.initial.out l.initial.listed l.out l.listed l.i × Lent l.table l.work
