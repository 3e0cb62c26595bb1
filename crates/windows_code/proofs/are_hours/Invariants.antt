-- `windows_code::are_hours`. The invariant: the windows passed are as stated.
use Prim.Native.Nat.{◌≤◌, ◌-◌}
use mathlib.Core.Path.{◌≡◌}
use mathlib.Core.Bool.{true}
use Rattle.windows.specs.Windows.{all_windows}
use Rattle.windows_code.proofs.are_hours.Given as goal

abbrev pub invariant-loop-i : goal.invariant-loop-i
invariant-loop-i l = (l.i ≤ l.n) × (all_windows l.i l.hours ≡ true)
