-- `plan_code::margins::grow_layers`. The invariant: what is put, and the layers that are left, give the whole plan.
use Prim.Native.Nat.{◌-◌}
use lib.ListN.{take}
use Rattle.plan.proofs.Growing.{Spread}
use Rattle.plan_code.proofs.margins.grow_layers.Given as goal

abbrev pub invariant-loop-j : goal.invariant-loop-j
invariant-loop-j l = Spread (take l.k l.sizes) l.margins l.cells l.initial.run l.run l.at l.start l.j
