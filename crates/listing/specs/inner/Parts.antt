-- What the functions of the commands ask of their callers and promise one another; no public call's contract cites it.
use Rattle.std.specs.Prelude.{◌≡◌, List, [], ◌∷◌, ◌++◌, Bool, true, false, cond, ℕ, suc, ◌≤◌, eqb, ℤ, length, take, drop, Float, Option, Some, None, Result, Ok, Err}
use Rattle.std.proofs.Math.Option as maybe
use Rattle.lists.specs.Lists.{All, sum}
use Rattle.plan.specs.declared.Shape.{Shape}
use Rattle.plan.specs.Plan.{Sound, grown}
use Rattle.sweep.specs.Sweep.{sweep_order}
use Rattle.paging.specs.Answers.{Run}
use Rattle.paging.specs.Calls.{run_call, run_table}
use Rattle.crossing_report.specs.CrossingCall.{CrossingValues, crossing_call, crossing_table}
use Rattle.text.specs.Reader.{ReadValues}
use Rattle.text.specs.Reader.{text_shape, text_cells}
use Rattle.reporting.specs.Report.{run_table_cells, run_work_cells}
use Rattle.reporting.specs.inner.Parts.{plan_cells, Lent}
use Rattle.rows.specs.Tables.{rows_in}
use Rattle.windows.specs.declared.Window.{Window}
use Rattle.windows.specs.Windows.{is_window}
use Rattle.survey.specs.declared.Strip.{Strip}
use Rattle.survey.specs.declared.Strip.TheVariants.{Free, From, To, Between}
use Rattle.lists.specs.inner.Stores.{Put}
use Rattle.listing.specs.declared.reason.Reason.{Reason}
use Rattle.listing.specs.declared.reason.Reason.TheVariants as reason
use Rattle.listing.specs.declared.Fault.{Fault}
use Rattle.listing.specs.Plans.{text_cause}
use Rattle.listing.specs.Reasons.{reason_number, line_reason}
use Rattle.listing.specs.Windows.{WindowDue, window, wrong, FaultValues, fault_told, no_fault, fault_from, hours_from}

-- the cells of a sound plan stand first in the lent ones, and its sweep order first in the lent order
pub record Ready (s : Shape) (lent : List ℤ) (order : List ℕ) : Type 0 where
  pub plan : Lent s lent
  pub long : sum s.sizes ≤ length order
  pub swept : take (sum s.sizes) order ≡ sweep_order (grown s (plan_cells s lent))

-- a sound plan, and its sweep order
abbrev pub Ordered : Shape → List ℤ → List ℕ → Type 0
Ordered s cells order = Sound s cells × (order ≡ sweep_order (grown s cells))

-- a text is read: why it is refused, or its plan
pub record Prepared (t : List ℕ) (r : ReadValues) (lent : List ℤ) (order : List ℕ) : Type 0 where
  pub cause : r.number ≡ text_cause t
  pub ready : r.number ≡ 0 → Ready r.shape lent order
  pub shape : r.number ≡ 0 → r.shape ≡ text_shape t
  pub cells : r.number ≡ 0 → plan_cells r.shape lent ≡ text_cells t

-- a whole run of a sound plan, timed or not, in its sweep order and into `run_table_cells` cells: its answer, and the table that it left
pub record Ran (windows : maybe.Option (List ℕ)) (s : Shape) (cells : List ℤ) (run : Run) (table : List ℕ) : Type 0 where
  pub sound : Sound s cells
  pub lent : List ℕ
  pub long : length lent ≡ run_table_cells
  pub answer : run ≡ run_call windows s cells (sweep_order (grown s cells)) lent run_work_cells
  pub filled : table ≡ run_table windows s cells (sweep_order (grown s cells)) lent run_work_cells

-- a crossing report of a sound plan, likewise
pub record Crossed (s : Shape) (cells : List ℤ) (told : CrossingValues) (table : List ℕ) : Type 0 where
  pub sound : Sound s cells
  pub lent : List ℕ
  pub long : length lent ≡ run_table_cells
  pub answer : told ≡ crossing_call s cells (sweep_order (grown s cells)) lent run_work_cells
  pub filled : table ≡ crossing_table s cells (sweep_order (grown s cells)) lent run_work_cells

-- what is due for each row, joined
abbrev pub each_row : (bytes : List ℕ → List ℕ) → List (List ℕ) → List ℕ
each_row bytes [] = []
each_row bytes (row ∷ rows) = bytes row ++ each_row bytes rows

-- what is due for the first n rows of a table
abbrev pub due_rows : (bytes : List ℕ → List ℕ) → (k n : ℕ) → (table : List ℕ) → List ℕ
due_rows bytes k n table = each_row bytes (rows_in k n table)

-- P holds of each of them
abbrev pub OfRows : (P : List ℕ → Type 0) → (k n : ℕ) → (table : List ℕ) → Type 0
OfRows P k n table = All P (rows_in k n table)

-- ---- stops
-- a stop, where it is given
abbrev pub stop_if : Bool → Float → Option Float
stop_if false a = None
stop_if true a = Some a

-- the strip of the stops that there are
abbrev pub strip_between : (lower upper : Option Float) → Strip
strip_between None None = Free
strip_between (Some a) None = From a
strip_between None (Some b) = To b
strip_between (Some a) (Some b) = Between a b

-- ---- windows
-- what is taken where a window is due
abbrev pub Takes : (t : List ℕ) → WindowDue → Result (Window × ℕ) Reason → Type 0
Takes t due (Ok p) = (due ≡ window p.0.from p.0.to (drop p.1 t)) × (p.1 ≤ length t)
Takes t due (Err e) = (r : ℕ) × (reason_number e ≡ suc r) × (due ≡ wrong r)

-- a window, if it is one
abbrev pub judged_at : (from to next : ℕ) → Result (Window × ℕ) Reason
judged_at from to next = let w : Window = record { from = from; to = to } in cond (is_window w) (Ok (w, next)) (Err reason.WrongWindow)

-- the number of what is told of a line where this was found wrong: of one that is not well formed, what is wrong with it
abbrev pub told_reason : Reason → (line : List ℕ) → ℕ
told_reason e line = cond (eqb (reason_number e) 1) (suc (line_reason line)) (reason_number e)

-- a text's fault is found
abbrev pub Finds : FaultValues → Result (Unit {0}) Fault → Type 0
Finds f (Ok u) = f ≡ no_fault
Finds f (Err e) = fault_told e ≡ f

-- a windows text of n rectangles is read: what is wrong, and its windows up to there
pub record ReadInto (t : List ℕ) (n : ℕ) (first : List ℕ) (r : Result (Unit {0}) Fault) (hours : List ℕ) : Type 0 where
  pub fault : Finds (fault_from n 1 t) r
  pub reached : ℕ
  pub stored : Put first 0 (hours_from n t) hours reached
