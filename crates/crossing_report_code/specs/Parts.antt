-- What the functions of the crossing report ask of their callers and promise one another; no public call's contract cites it.
use Rattle.std.specs.Prelude.{◌≡◌, List, ℕ, ℤ, Ok, Err, replicate}
use Rattle.std.proofs.Math.Option.{none}
use Rattle.plan.specs.declared.Shape.{Shape}
use Rattle.plan.specs.Plan.{layers, Sound}
use Rattle.crossings.specs.ClassCall.{crossing_cause, class_counts}
use Rattle.paging.specs.Answers.{Run}
use Rattle.crossing_report.specs.CrossingCall.{CrossingValues}
use Rattle.paging.specs.Overlays.{overlay}
use Rattle.paging.specs.Calls.{run_call, run_table}

-- a whole run on a plan of segments answered this, and left this table
pub record RanInto (s : Shape) (cells : List ℤ) (run : Run) (table : List ℕ) : Type 0 where
  pub sound : Sound s cells
  pub passed : crossing_cause s cells ≡ 0
  pub order : List ℕ
  pub lent : List ℕ
  pub work : ℕ
  pub answer : run ≡ run_call none s cells order lent work
  pub filled : table ≡ run_table none s cells order lent work

abbrev pub refused_report : ℕ → CrossingValues
refused_report cause = record { run = Err cause; counts = replicate 17 0 }

-- the report on a run's answer
abbrev pub report_on : Shape → List ℤ → Run → CrossingValues
report_on s cells (Err cause) = refused_report cause
report_on s cells (Ok done) = record { run = Ok done; counts = class_counts (layers s cells) (overlay s cells).table }
