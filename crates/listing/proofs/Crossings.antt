-- Laws of the crossing report's cause, and what it tells of the run.
use mathlib.Core.Path.{◌≡◌}
use mathlib.Core.List.{List}
use mathlib.Core.Option.{none}
use mathlib.Core.Bool.{true}
use Prim.Native.Nat.{ℕ}
use lib.IntN.{ℤ}
use lib.ListN.{length}
use Rattle.plan.specs.declared.Shape.{Shape}
use Rattle.plan.specs.Plan.{layers, grown}
use Rattle.plan.proofs.Plan.{or-else-zero}
use Rattle.sweep.specs.Sweep.{sweep_order}
use Rattle.join.specs.Table.{plan_table}
use Rattle.crossings.specs.ClassCall.{crossing_cause, class_counts}
use Rattle.paging.specs.Calls.{run_cause, run_call}
use Rattle.crossing_report.specs.CrossingCall.{crossing_run_cause, crossing_call}
use Rattle.reporting.specs.Report.{run_table_cells, run_work_cells, empty_table}
use Rattle.reporting.proofs.Runs.{is-done}
use Rattle.listing.proofs.Runs.{same-cause}

-- the cause goes by the table's length alone
pub same-crossing : (s : Shape) (cells : List ℤ) (table : List ℕ) → length table ≡ run_table_cells
    → crossing_run_cause s cells (sweep_order (grown s cells)) table run_work_cells ≡ crossing_run_cause s cells (sweep_order (grown s cells)) empty_table run_work_cells
unfolding crossing_run_cause
same-crossing s cells table long = rw (same-cause none s cells table long)

-- ---- the cause, and what the run is
module _ (s : Shape) (cells : List ℤ) (order lent : List ℕ) (work : ℕ) (z : crossing_run_cause s cells order lent work ≡ 0) where
  pub passed : (crossing_cause s cells ≡ 0) × (run_cause none s cells order lent work ≡ 0)
  unfolding crossing_run_cause
  passed = or-else-zero (crossing_cause s cells) _ z

  pub ran-done : is-done (run_call none s cells order lent work) ≡ true
  unfolding run_call
  ran-done = rw passed.1

  pub counted : (crossing_call s cells order lent work).counts ≡ class_counts (layers s cells) (plan_table s cells)
  unfolding crossing_call
  counted = rw z
