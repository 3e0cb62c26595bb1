-- `list_with` lists layer after layer. The loop's invariant: the layers from j on are left.
use Prim.Native.Nat.{suc, ◌-◌}
use Rattle.asking.specs.Lines.{two_line}
use Rattle.asking_runs_code.specs.Listing.{rows_asked, Lent}
use Rattle.asking_runs_code.proofs.Loops.{Going}
use Rattle.asking_runs_code.proofs.every.list_with.Given as goal

abbrev pub invariant-loop-j : goal.invariant-loop-j
invariant-loop-j l = Going (two_line l.shape l.cells) (λ n. rows_asked l.shape l.cells l.layer l.i n) (suc l.i) (l.shape.k - suc l.i) l.shape.k l.initial.out l.initial.listed l.out l.listed l.j × Lent l.table l.work
