-- `tell_lines` goes line by line. The loop's invariant: what was told, and what the lines that are left give, make all. The measure is what is left of the text.
use Prim.Native.Nat.{◌-◌}
use lib.ListN.{length}
use Rattle.checking.proofs.Noting.{Noting}
use Rattle.checking_code.proofs.faults.tell_lines.Given as goal

abbrev pub invariant-loop-at : goal.invariant-loop-at
invariant-loop-at l = Noting l.text l.from l.initial.err l.initial.p l.err l.at l.number l.p l.c

abbrev pub decreases-loop-at : goal.decreases-loop-at
decreases-loop-at l = length l.text - l.at
