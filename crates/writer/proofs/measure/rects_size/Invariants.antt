-- `rects_size` adds up line after line. The loop's invariant: what is left to be measured gives the whole.
use Prim.Native.Nat.{◌≤◌}
use Rattle.text.proofs.Lengths.{Measuring}
use Rattle.writer.proofs.measure.rects_size.Given as goal

abbrev pub invariant-loop-p : goal.invariant-loop-p
invariant-loop-p l = (l.p ≤ l.n) × Measuring l.cells l.size l.p
