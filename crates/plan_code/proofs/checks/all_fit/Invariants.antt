-- `plan_code::checks::all_fit`. The invariant: what is left to test decides as the whole does.
use Prim.Native.Nat.{◌-◌}
use lib.ListN.{length}
use Rattle.plan.proofs.Plan.{Fitted}
use Rattle.plan_code.proofs.checks.all_fit.Given as goal

abbrev pub invariant-loop-j : goal.invariant-loop-j
invariant-loop-j l = Fitted l.most l.k l.numbers l.j
