-- `ground_of` takes in one rectangle after the other. The loop's invariant: the ground of the first i.
use mathlib.Core.Path.{◌≡◌}
use Prim.Native.Nat.{◌≤◌}
use Rattle.plan.specs.Plan.{rect_at}
use Rattle.picture.specs.Frames.{hull}
use Rattle.picture_code.proofs.frames.ground_of.Given as goal

abbrev pub invariant-loop-i : goal.invariant-loop-i
invariant-loop-i l = (l.i ≤ l.n) × (l.ground ≡ hull (rect_at l.cells) l.i)
