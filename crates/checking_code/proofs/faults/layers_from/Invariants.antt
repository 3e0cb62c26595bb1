-- `layers_from` goes line by line. The loop's invariant: what was counted, and the LAYER lines that are left, make all. The measure is what is left of the text.
use Prim.Native.Nat.{◌-◌}
use lib.ListN.{length}
use Rattle.checking.proofs.Layers.{Layering}
use Rattle.checking_code.proofs.faults.layers_from.Given as goal

abbrev pub invariant-loop-at : goal.invariant-loop-at
invariant-loop-at l = Layering l.text l.from l.at l.count

abbrev pub decreases-loop-at : goal.decreases-loop-at
decreases-loop-at l = length l.text - l.at
