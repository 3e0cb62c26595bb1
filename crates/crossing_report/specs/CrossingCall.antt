-- What the crossing report answers (02, Q-2).
use Rattle.std.specs.Prelude.{List, ℕ, ℤ, Result, Ok, Err, replicate}
use Rattle.std.proofs.Math.Option.{none}
use Rattle.plan.specs.declared.Shape.{Shape}
use Rattle.plan.specs.Causes.{◌or_else◌, on_cause}
use Rattle.plan.specs.Plan.{layers}
use Rattle.join.specs.Table.{plan_table}
use Rattle.crossings.specs.ClassCall.{crossing_cause, class_counts}
use Rattle.plan.specs.declared.cause.Cause.{Cause}
use Rattle.plan.specs.Causes.{number_of}
use Rattle.paging.specs.Answers.{Run}
use Rattle.paging.specs.Calls.{run_cause, run_call, run_table}
use Rattle.crossing_report.specs.declared.CrossingReport.{CrossingReport}

-- what it answers: the whole run's answer, and the counts
pub record CrossingValues : Type 0 where
  pub run : Run
  pub counts : List ℕ

-- those of the code's answers
abbrev pub report_told : Result CrossingReport Cause → CrossingValues
report_told (Ok report) = record { run = Ok report.run; counts = report.counts }
report_told (Err c) = record { counts = replicate 17 0; run = Err (number_of c) }

module _ (s : Shape) (cells : List ℤ) (order table : List ℕ) (work : ℕ) where
  -- its checks: 1 2 17 3 4 15 16, then the whole run's
  unfoldable pub crossing_run_cause : ℕ
  crossing_run_cause = crossing_cause s cells or_else run_cause none s cells order table work

  -- 02: "a whole run that also returns how many rows fall in each class 0 to 16". A refusal returns its number and 0 for all else, the counts too
  unfoldable pub crossing_call : CrossingValues
  crossing_call =
      on_cause crossing_run_cause (record { run = run_call none s cells order table work; counts = class_counts (layers s cells) (plan_table s cells) })
      (λ n. record { run = Err n; counts = replicate 17 0 })

  -- the table afterwards: that of the whole run, or after a refusal what it was
  unfoldable pub crossing_table : List ℕ
  crossing_table = on_cause crossing_run_cause (run_table none s cells order table work) (λ n. table)
