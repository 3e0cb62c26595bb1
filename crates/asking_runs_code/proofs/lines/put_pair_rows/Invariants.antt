-- `put_pair_rows` writes line after line. The loop's invariant: the rows from i on are left.
use Prim.Native.Nat.{◌*◌}
use Rattle.asking_runs_code.proofs.PairLines.{Unlisted}
use Rattle.asking_runs_code.proofs.lines.put_pair_rows.Given as goal

abbrev pub invariant-loop-i : goal.invariant-loop-i
invariant-loop-i l = Unlisted l.sizes l.k l.cells l.table l.n l.lower l.higher l.initial.pen l.pen (l.i * l.k) l.i
