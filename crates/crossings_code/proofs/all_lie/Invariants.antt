-- `crossings_code::all_lie`. The invariant: the rectangles passed are segments.
use mathlib.Core.Path.{◌≡◌}
use mathlib.Core.Bool.{true}
use Prim.Native.Nat.{◌+◌, ◌≤◌}
use Rattle.plan.specs.Plan.{rect_at}
use Rattle.crossings.specs.inner.Ends.{all_lie}
use Rattle.crossings_code.specs.Lies.{is_level}
use Rattle.crossings_code.proofs.all_lie.Given as goal

abbrev pub invariant-loop-i : goal.invariant-loop-i
invariant-loop-i l = (l.i ≤ l.size) × (all_lie (is_level l.lie) l.i (λ p. rect_at l.cells (l.start + p)) ≡ true)
