-- `put_rects` writes line after line. The loop's invariant: the lines from place p on are left to be written.
use Prim.Native.Nat.{◌≤◌}
use Rattle.text.proofs.Rects.{Rects}
use Rattle.writer.proofs.put.put_rects.Given as goal

abbrev pub invariant-loop-p : goal.invariant-loop-p
invariant-loop-p l = (l.p ≤ l.n) × Rects l.initial.pen l.cells l.pen l.p
