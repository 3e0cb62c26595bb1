-- Theorem: what the crossing report returns, beside what demand 3 says of it (the crate demands: `crossing`). Proved in proofs/Theorems.antt.
use Rattle.std.specs.Prelude.{◌≡◌, List, ℕ, suc, ◌*◌, ◌≤◌, ◌<◌, ℤ, eqb, length, get_or, replicate, Ok, Err}
use Rattle.std.proofs.Math.Option.{none}
use Rattle.lists.specs.Lists.{sum, keep}
use Rattle.plan.specs.declared.Shape.{Shape}
use Rattle.plan.specs.declared.cause.Cause.{Cause}
use Rattle.plan.specs.Causes.{number_of, Check, Passed}
use Rattle.plan.specs.Plan.{Typed, grown}
use Rattle.plan.specs.Theorems.{PlanChecks}
use Rattle.sweep.specs.Sweep.{sweep_order}
use Rattle.join.specs.Table.{plan_table}
use Rattle.crossings.specs.ClassCall.{class_call, class_values}
use Rattle.crossings.specs.Theorems.{Segments}
use Rattle.paging.specs.Overlays.{overlay}
use Rattle.paging.specs.Calls.{run_call, run_table}
use Rattle.paging.specs.Theorems.{takes}
use Rattle.crossing_report.specs.declared.CrossingReport.{CrossingReport}
use Rattle.crossing_report.specs.CrossingCall.{CrossingValues, report_told, crossing_run_cause, crossing_call, crossing_table}

-- the counts of classes 0 to 16: of each, how many rows of the table have it by the class call
pub record Counts (s : Shape) (cells : List ℤ) (counts : List ℕ) : Type 0 where
  pub seventeen : length counts ≡ 17
  pub each : (class : ℕ) → class < 17
      → get_or counts class 0 ≡ length (keep (λ row. eqb (class_values (class_call s cells row)).class class) (plan_table s cells))
  -- 02: "The counts add up to the rows of the join."
  pub sum : sum counts ≡ length (plan_table s cells)

-- the cause that refuses it, what it told, and the table as it left it
pub record CrossingReports (s : Shape) (cells : List ℤ) (order table : List ℕ) (work refusal : ℕ) (told : CrossingValues) (left : List ℕ) : Type 0 where
  -- behind the plan's lines 15 and 16, 02: "both after 4, in that order", and then the whole run's: 5, 7 and 19
  pub causes : let o = overlay s cells in let n = length o.table in
      PlanChecks s cells (Check 15 (3 ≤ s.k) (Check 16 (Segments s cells) (Check 5 (order ≡ sweep_order (grown s cells))
      (Check 7 (n ≤ takes o table) (Check 19 (2 * n ≤ work) Passed))))) refusal
  -- it is the whole run, with the counts
  pub run : refusal ≡ 0
      → (told.run ≡ run_call none s cells order table work) × Counts s cells told.counts × (left ≡ run_table none s cells order table work)
  -- a refusal: its number, seventeen times 0, the table as it was
  pub refused : (n : ℕ) → refusal ≡ suc n
      → (told.run ≡ Err (suc n)) × (length told.counts ≡ 17) × ((class : ℕ) → get_or told.counts class 0 ≡ 0) × (left ≡ table)

pub record Tallies : Type 0 where
  pub reports : (s : Shape) (cells : List ℤ) (order table : List ℕ) (work : ℕ) → Typed s
      → CrossingReports s cells order table work (crossing_run_cause s cells order table work) (crossing_call s cells order table work)
      (crossing_table s cells order table work)
  -- what its answer says: the run and the counts, or the number of its cause and seventeen times 0
  pub answer : (r : CrossingReport) (c : Cause)
      → (report_told (Ok r) ≡ record { run = Ok r.run; counts = r.counts })
      × (report_told (Err c) ≡ record { run = Err (number_of c); counts = replicate 17 0 })
