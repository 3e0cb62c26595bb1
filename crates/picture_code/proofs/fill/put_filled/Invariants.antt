-- `put_filled` writes byte after byte. The loop's invariant: the bytes from the one at the index on are left, with the numbers from j on.
use Rattle.picture.proofs.Fills.{Filling}
use Rattle.picture_code.proofs.fill.put_filled.Given as goal

abbrev pub invariant-loop-b : goal.invariant-loop-b
invariant-loop-b l = Filling l.text l.numbers l.initial.pen l.pen l.b-index l.j
