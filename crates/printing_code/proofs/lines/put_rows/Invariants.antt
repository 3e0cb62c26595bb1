-- `put_rows` writes line after line. The loop's invariant: the rows from i on are left.
use Rattle.printing.proofs.Rows.{Unprinted}
use Rattle.printing_code.proofs.lines.put_rows.Given as goal

abbrev pub invariant-loop : goal.invariant-loop
invariant-loop l = Unprinted l.sizes l.k l.cells l.table l.n l.initial.pen l.pen l.start l.counter
