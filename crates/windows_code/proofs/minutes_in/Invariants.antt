-- `windows_code::minutes_in`. The invariant: from the minutes so far, the windows of the layers that are left lead to those of all.
use Prim.Native.Nat.{◌-◌}
use lib.ListN.{length}
use Rattle.windows.proofs.Rowwise.{Sharing}
use Rattle.windows_code.proofs.minutes_in.Given as goal

abbrev pub invariant-loop-j : goal.invariant-loop-j
invariant-loop-j l = Sharing l.sizes l.hours l.row l.w l.start l.j
