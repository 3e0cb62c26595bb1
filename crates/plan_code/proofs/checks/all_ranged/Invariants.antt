-- `plan_code::checks::all_ranged`. The invariant: the rectangles passed are in range.
use Prim.Native.Nat.{◌≤◌, ◌-◌}
use mathlib.Core.Path.{◌≡◌}
use mathlib.Core.Bool.{true}
use Rattle.plan.specs.Plan.{all_ranged}
use Rattle.plan_code.proofs.checks.all_ranged.Given as goal

abbrev pub invariant-loop-i : goal.invariant-loop-i
invariant-loop-i l = (l.i ≤ l.n) × (all_ranged l.i l.cells ≡ true)
