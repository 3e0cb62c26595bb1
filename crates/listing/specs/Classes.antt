-- What the command `classes` says: the crossing report of a plan (02, Q-2), as the report makes its run.
use Rattle.std.specs.Prelude.{List, ◌++◌, ℕ, ℤ, length}
use Rattle.plan.specs.declared.Shape.{Shape}
use Rattle.plan.specs.Causes.{on_cause}
use Rattle.plan.specs.Plan.{sizes_of, layers, grown}
use Rattle.sweep.specs.Sweep.{sweep_order}
use Rattle.join.specs.Table.{plan_table}
use Rattle.walk.specs.Walk.{walk_of}
use Rattle.crossings.specs.ClassCall.{class_counts}
use Rattle.paging.specs.Calls.{ground_once}
use Rattle.crossing_report.specs.CrossingCall.{crossing_run_cause}
use Rattle.printing.specs.Lines.{total_line}
use Rattle.reporting.specs.Report.{run_work_cells, empty_table}
use Rattle.outcomes.specs.Outcomes.{Outcome, done, refused}
use Rattle.listing.specs.Lines.{classed_lines, class_lines}
use Rattle.listing.specs.Plans.{on_plan}

-- the rows of a plan's table, each with its class, how many rows each class has, and the report's total
abbrev pub class_report : Shape → List ℤ → List ℕ
class_report s cells =
    let ls = layers s cells in let table = plan_table s cells in
    classed_lines ls table
    ++ (class_lines 0 (class_counts ls table) ++ total_line (length table) (length (walk_of (sizes_of s) (grown s cells))) (ground_once ls table))

-- what is said of a plan
unfoldable pub plan_classes : Shape → List ℤ → Outcome
plan_classes s cells = on_cause (crossing_run_cause s cells (sweep_order (grown s cells)) empty_table run_work_cells) (done (class_report s cells)) refused

-- what is said of a text
abbrev pub classes_said : List ℕ → Outcome
classes_said t = on_plan plan_classes t
