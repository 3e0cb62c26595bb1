-- `put_nears` writes line after line. The loop's invariant: the layers from j on are left.
use Rattle.asking_code.proofs.NearLines.{Unput}
use Rattle.asking_code.proofs.near.put_nears.Given as goal

abbrev pub invariant-loop-j : goal.invariant-loop-j
invariant-loop-j l = Unput l.k l.fn.layers l.initial.pen l.pen l.j
