-- `plan_code::margins::grow_layer`. The invariant: what is put, and the rectangles that are left, give the whole layer.
use Prim.Native.Nat.{◌-◌}
use Rattle.plan.specs.Plan.{rect_at}
use Rattle.plan.proofs.Growing.{Enlarged}
use Rattle.plan_code.proofs.margins.grow_layer.Given as goal

abbrev pub invariant-loop-p : goal.invariant-loop-p
invariant-loop-p l = Enlarged l.margin (rect_at l.cells) l.size l.initial.run l.at l.run l.to l.p
