-- The causes of the crossing report, and that it is a whole run.
use mathlib.Core.Path.{◌≡◌, refl}
use mathlib.Core.List.{List}
use mathlib.Core.Option.{none}
use Prim.Native.Nat.{ℕ, zero, suc, ◌*◌, ◌≤◌}
use native.Mathlib.Omega.{arith}
use lib.IntN.{ℤ}
use lib.ListN.{length}
use Rattle.plan.specs.declared.Shape.{Shape}
use Rattle.plan.specs.Causes.{◌or_else◌, on_cause, Check, Passed}
use Rattle.plan.specs.Plan.{grown, plan_cause, Typed, Sound}
use Rattle.plan.specs.Theorems.{PlanChecks}
use Rattle.plan.proofs.Causes.{check-then, check-past}
use Rattle.plan.proofs.Theorems.{plan-then}
use Rattle.sweep.specs.Sweep.{sweep_order, order_cause}
use Rattle.crossings.specs.ClassCall.{crossing_cause}
use Rattle.crossings.specs.Theorems.{Segments}
use Rattle.crossings.proofs.Answers.{cause-sound}
use Rattle.crossings.proofs.Theorems as Class
use Rattle.paging.specs.Overlays.{overlay}
use Rattle.paging.specs.Calls.{run_cause, run_call, run_table}
use Rattle.paging.specs.Theorems.{takes, Hours, RunHolds}
use Rattle.paging.proofs.Causes.{plan-past, run-checks}
use Rattle.paging.proofs.Runs.{run_holds}
use Rattle.crossing_report.specs.CrossingCall.{crossing_run_cause, crossing_call, crossing_table}

-- ---- its causes
-- those of the class call, and behind them the run's own
behind : (N : ℕ → Type 0) (s : Shape) (cells : List ℤ) (a b : ℕ) → (a ≡ 0 → N b)
    → PlanChecks s cells (Check 15 (3 ≤ s.k) (Check 16 (Segments s cells) Passed)) a → PlanChecks s cells (Check 15 (3 ≤ s.k) (Check 16 (Segments s cells) N)) (a or_else b)
behind N s cells a b f =
    plan-then s cells (Check 15 (3 ≤ s.k) (Check 16 (Segments s cells) Passed)) (Check 15 (3 ≤ s.k) (Check 16 (Segments s cells) N)) a b
    (check-then 15 a b (omega arith) (check-then 16 a b (omega arith) (λ e. rw e (f e))))

module _ (s : Shape) (cells : List ℤ) (order table : List ℕ) (work : ℕ) where
  abbrev Ordered : Type 0
  Ordered = order ≡ sweep_order (grown s cells)

  abbrev Fits : Type 0
  Fits = length (overlay s cells).table ≤ takes (overlay s cells) table

  abbrev Enough : Type 0
  Enough = 2 * length (overlay s cells).table ≤ work

  -- the run's own, behind a plan's
  own-checks : plan_cause s cells ≡ 0 → Check 5 Ordered (Check 7 Fits (Check 19 Enough Passed)) (run_cause none s cells order table work)
  own-checks e = check-past tt (plan-past s cells {N = Check 24 (Hours none s) (Check 5 Ordered (Check 7 Fits (Check 19 Enough Passed)))} e (run-checks none s cells order table work))

  pub crossing-checks : Typed s
      → PlanChecks s cells (Check 15 (3 ≤ s.k) (Check 16 (Segments s cells) (Check 5 Ordered (Check 7 Fits (Check 19 Enough Passed))))) (crossing_run_cause s cells order table work)
  unfolding crossing_run_cause
  crossing-checks typed =
      behind (Check 5 Ordered (Check 7 Fits (Check 19 Enough Passed))) s cells (crossing_cause s cells) (run_cause none s cells order table work)
      (λ e. own-checks (cause-sound s cells typed e).passed) ((Class.crossings).causes s cells typed)

-- ---- what it answers
-- where neither 15 nor 16 applies
module _ (s : Shape) (cells : List ℤ) (order table : List ℕ) (work : ℕ) (passed : crossing_cause s cells ≡ 0) where
  -- it is refused, answers and fills its table as the run does
  pub crossing-cause : crossing_run_cause s cells order table work ≡ run_cause none s cells order table work
  unfolding crossing_run_cause
  crossing-cause = rw passed

  pub crossing-run : (crossing_call s cells order table work).run ≡ run_call none s cells order table work
  unfolding crossing_call run_call
  crossing-run = go (run_cause none s cells order table work) refl
    where
      go : (c : ℕ) → run_cause none s cells order table work ≡ c → (crossing_call s cells order table work).run ≡ run_call none s cells order table work
      go zero e = rw (crossing-cause, e)
      go (suc c) e = rw (crossing-cause, e)

  pub crossing-table : crossing_table s cells order table work ≡ run_table none s cells order table work
  unfolding crossing_table run_table
  crossing-table = rw crossing-cause (go (run_cause none s cells order table work) refl)
    where
      go : (c : ℕ) → run_cause none s cells order table work ≡ c → on_cause (run_cause none s cells order table work) (run_table none s cells order table work) (λ n. table) ≡ run_table none s cells order table work
      go zero e = rw e
      go (suc c) e = rw e

  pub crossing-holds : Sound s cells → order_cause s cells order ≡ 0 → 2 * length (overlay s cells).table ≤ work
      → RunHolds s cells (overlay s cells) table (crossing_run_cause s cells order table work) (crossing_call s cells order table work).run (crossing_table s cells order table work)
  crossing-holds sound o enough = rw (crossing-cause, crossing-run, crossing-table) (run_holds s cells order table work sound o enough)
