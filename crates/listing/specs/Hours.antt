-- What the command `hours` says: the timed run of a plan with a windows text (02, Q-12), as the report makes its run.
use Rattle.std.specs.Prelude.{List, [], ◌∷◌, ◌++◌, ℕ, ℤ, length}
use Rattle.std.proofs.Math.Option.{some}
use Rattle.lists.specs.Lists.{sum}
use Rattle.plan.specs.declared.Shape.{Shape}
use Rattle.plan.specs.Causes.{on_cause}
use Rattle.plan.specs.Plan.{Layer, sizes_of, layers, grown}
use Rattle.sweep.specs.Sweep.{sweep_order}
use Rattle.windows.specs.Windows.{hours_of}
use Rattle.timed.specs.Timed.{timed_walk_of, timed_table_of}
use Rattle.paging.specs.Calls.{run_cause, ground_once}
use Rattle.printing.specs.Lines.{total_line}
use Rattle.reporting.specs.Report.{run_work_cells, empty_table}
use Rattle.outcomes.specs.Outcomes.{Outcome, done, refused, refused_with}
use Rattle.listing.specs.Lines.{row_lines_with}
use Rattle.listing.specs.Plans.{on_plan}
use Rattle.listing.specs.Windows.{fault_from, hours_from, fault_line}

-- the numbers that a row's line ends with: the first minute that its windows share, and the first after them
abbrev pub minutes_in : (sizes hours : List ℕ) → List ℕ → List ℕ
minutes_in ns hours row = let w = hours_of ns hours row in w.from ∷ w.to ∷ []

-- the ROW lines of rows with these windows
abbrev pub hour_lines : (sizes hours : List ℕ) → List Layer → List (List ℕ) → List ℕ
hour_lines ns hours ls rows = row_lines_with (minutes_in ns hours) ls rows

-- the rows of a plan's timed table, each with its shared minutes, and the total: rows, trials of the timed walk, the ground of these rows
abbrev pub hour_report : Shape → List ℤ → (hours : List ℕ) → List ℕ
hour_report s cells hours =
    let ns = sizes_of s in let ls = layers s cells in let table = timed_table_of ns (grown s cells) hours in
    hour_lines ns hours ls table ++ total_line (length table) (length (timed_walk_of ns (grown s cells) hours)) (ground_once ls table)

-- what is said of a plan with windows
unfoldable pub timed_said : Shape → List ℤ → (hours : List ℕ) → Outcome
timed_said s cells hours = on_cause (run_cause (some hours) s cells (sweep_order (grown s cells)) empty_table run_work_cells) (done (hour_report s cells hours)) refused

-- what is said of a plan with a windows text: 24, with its first line that is wrong, or the timed run
unfoldable pub plan_hours : (windows : List ℕ) → Shape → List ℤ → Outcome
plan_hours windows s cells =
    let n = sum s.sizes in let f = fault_from n 1 windows in
    on_cause f.reason (timed_said s cells (hours_from n windows)) (λ r. refused_with 24 (fault_line f))

-- what is said of a plan text and a windows text
abbrev pub hours_said : (text windows : List ℕ) → Outcome
hours_said text windows = on_plan (plan_hours windows) text
