-- What the parts of the report promise one another; no public call's contract cites it.
use Rattle.std.specs.Prelude.{◌≡◌, List, ℕ, ◌*◌, ◌≤◌, ℤ, length, take}
use Rattle.std.proofs.Math.Option.{none}
use Rattle.lists.specs.Lists.{sum}
use Rattle.plan.specs.declared.Shape.{Shape}
use Rattle.plan.specs.Causes.{refusal, on_cause}
use Rattle.plan.specs.Plan.{Sound, grown}
use Rattle.sweep.specs.Sweep.{sweep_order}
use Rattle.paging.specs.Answers.{Run}
use Rattle.paging.specs.Calls.{run_cause, run_call, run_table}
use Rattle.printing.specs.Lines.{refused_line}
use Rattle.lists.specs.inner.Stores.{Put}
use Rattle.reporting.specs.declared.Printout.{Printout}
use Rattle.reporting.specs.Report.{run_table_cells, run_work_cells, empty_table, table_report}

-- the cause that refuses a sound plan's run
unfoldable pub plan_cause : Shape → List ℤ → ℕ
plan_cause s cells = run_cause none s cells (sweep_order (grown s cells)) empty_table run_work_cells

-- what is printed for a plan
unfoldable pub plan_report : Shape → List ℤ → List ℕ
plan_report s cells = on_cause (plan_cause s cells) (table_report s cells) refused_line

-- bytes stand at the start of a buffer, beside the cause that they tell
pub record Printed (n : ℕ) (bytes out last : List ℕ) (r : Printout) : Type 0 where
  pub number : refusal r.told ≡ n
  pub put : Put out 0 bytes last r.size

-- the first cells, four for each rectangle of a shape
abbrev pub plan_cells : Shape → List ℤ → List ℤ
plan_cells s lent = take (4 * sum s.sizes) lent

-- they are the cells of a sound plan
pub record Lent (s : Shape) (lent : List ℤ) : Type 0 where
  pub fits : 4 * sum s.sizes ≤ length lent
  pub sound : Sound s (plan_cells s lent)

-- a whole run of a sound plan, in its sweep order and into `run_table_cells` cells: its answer, and the table that it left
pub record RanInto (s : Shape) (cells : List ℤ) (run : Run) (table : List ℕ) : Type 0 where
  pub sound : Sound s cells
  pub lent : List ℕ
  pub long : length lent ≡ run_table_cells
  pub answer : run ≡ run_call none s cells (sweep_order (grown s cells)) lent run_work_cells
  pub filled : table ≡ run_table none s cells (sweep_order (grown s cells)) lent run_work_cells
