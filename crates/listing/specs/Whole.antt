-- Theorem: what the commands `classes`, `hours` and `cover` say as a whole. Proved in proofs/Whole.antt.
use Rattle.std.specs.Prelude.{◌≡◌, List, [], ◌∷◌, ◌++◌, ℕ, suc, ◌≤◌, ◌<◌, ℤ, pos, negsuc, length}
use Rattle.std.proofs.Math.Option.{some}
use Prim.Native.String.{String}
use Rattle.lists.specs.Lists.{sum}
use Rattle.geometry.specs.declared.Rect.{Rect}
use Rattle.plan.specs.declared.Shape.{Shape}
use Rattle.plan.specs.Causes.{Check, Passed}
use Rattle.plan.specs.Plan.{sizes_of, layers, grown, Sound}
use Rattle.sweep.specs.Sweep.{sweep_order}
use Rattle.join.specs.Table.{plan_table}
use Rattle.walk.specs.Walk.{walk_of}
use Rattle.crossings.specs.ClassCall.{class_counts}
use Rattle.timed.specs.Timed.{timed_walk_of, timed_table_of}
use Rattle.paging.specs.Calls.{run_cause, ground_once}
use Rattle.crossing_report.specs.CrossingCall.{crossing_run_cause}
use Rattle.text.specs.Plans.{text_of}
use Rattle.text.specs.Theorems.{Formed, PlanText}
use Rattle.printing.specs.Lines.{total_line}
use Rattle.reporting.specs.Report.{run_work_cells, empty_table}
use Rattle.survey.specs.CoverCall.{cover_cause}
use Rattle.outcomes.specs.Texts.{ascii}
use Rattle.outcomes.specs.Outcomes.{Outcome, refused, refused_with}
use Rattle.listing.specs.Lines.{classed_lines, class_lines}
use Rattle.listing.specs.Plans.{text_cause, on_plan}
use Rattle.listing.specs.Classes.{plan_classes}
use Rattle.listing.specs.Windows.{FaultValues, fault_from, hours_from, fault_line}
use Rattle.listing.specs.Hours.{hour_lines, plan_hours}
use Rattle.listing.specs.Cover.{floats_in, across_of, upward_of, layer_text, cover_said}

-- nothing stands on standard error, and the status is 0
abbrev pub printed : List ℕ → Outcome
printed out = record { status = 0; out = out; err = [] }

-- ---- a plan text
pub record TextSaid : Type 0 where
  -- 13, "input above 65,536 bytes", whatever they are; 9; 10
  pub causes : (t : List ℕ) → Check 13 (length t ≤ 65536) (Check 9 (Formed t) (Check 10 (PlanText t) Passed)) (text_cause t)
  -- one of these is told as a refusal; else what is said is said of the text's plan
  pub refusal : (say : Shape → List ℤ → Outcome) (t : List ℕ) (n : ℕ) → text_cause t ≡ suc n → on_plan say t ≡ refused (suc n)
  pub planned : (say : Shape → List ℤ → Outcome) (s : Shape) (cells : List ℤ) → Sound s cells → length (text_of s cells) ≤ 65536
      → on_plan say (text_of s cells) ≡ say s cells

-- ---- `classes`
module _ (s : Shape) (cells : List ℤ) where
  -- the crossing report's cause, as the report makes its run
  abbrev pub classes_cause : ℕ
  classes_cause = crossing_run_cause s cells (sweep_order (grown s cells)) empty_table run_work_cells

  pub record ClassesSaid : Type 0 where
    -- each row of the plan's table in its order, with its class; the classes that have rows; the total that the report has
    pub done : classes_cause ≡ 0 → let ls = layers s cells in let table = plan_table s cells in plan_classes s cells
        ≡ printed (classed_lines ls table ++ (class_lines 0 (class_counts ls table)
        ++ total_line (length table) (length (walk_of (sizes_of s) (grown s cells))) (ground_once ls table)))
    pub refused : (n : ℕ) → classes_cause ≡ suc n → plan_classes s cells ≡ refused (suc n)

  -- ---- `hours`, with a windows text
  module _ (windows : List ℕ) where
    -- what is wrong in it, its windows, and the timed run's cause
    abbrev pub fault : FaultValues
    fault = fault_from (sum s.sizes) 1 windows

    abbrev pub hours : List ℕ
    hours = hours_from (sum s.sizes) windows

    abbrev pub hours_cause : ℕ
    hours_cause = run_cause (some hours) s cells (sweep_order (grown s cells)) empty_table run_work_cells

    pub record HoursSaid : Type 0 where
      -- each row of the timed table in its order, with its minutes; the rows, the trials of the timed walk, the ground of these rows
      pub done : fault.reason ≡ 0 → hours_cause ≡ 0
          → let ns = sizes_of s in let ls = layers s cells in let table = timed_table_of ns (grown s cells) hours in plan_hours windows s cells
          ≡ printed (hour_lines ns hours ls table ++ total_line (length table) (length (timed_walk_of ns (grown s cells) hours)) (ground_once ls table))
      -- 24 comes first
      pub wrong : (r : ℕ) → fault.reason ≡ suc r → plan_hours windows s cells ≡ refused_with 24 (fault_line fault)
      pub refused : (n : ℕ) → fault.reason ≡ 0 → hours_cause ≡ suc n → plan_hours windows s cells ≡ refused (suc n)

-- ---- `cover`
module _ (stops : Rect) (given : ℕ) (t : List ℕ) where
  -- the cause of the call with the records of the bytes and the two strips, where cells for 512 covers are lent
  abbrev pub call_cause : ℕ
  call_cause = cover_cause (across_of stops given) (upward_of stops given) (floats_in t) 2048

  pub record CoverCalled : Type 0 where
    -- 13 comes first
    pub long : 65536 < length t → cover_said stops given t ≡ refused 13
    pub done : length t ≤ 65536 → call_cause ≡ 0
        → cover_said stops given t ≡ printed (layer_text (across_of stops given) (upward_of stops given) (floats_in t))
    pub refused : (n : ℕ) → length t ≤ 65536 → call_cause ≡ suc n → cover_said stops given t ≡ refused (suc n)

-- ---- `cover`, computed
-- the eight bytes of a float whose pattern ends in six bytes 0
abbrev pub float : (b₆ b₇ : ℕ) → List ℕ → List ℕ
float b₆ b₇ rest = 0 ∷ 0 ∷ 0 ∷ 0 ∷ 0 ∷ 0 ∷ b₆ ∷ b₇ ∷ rest

-- two records: 0.5, -0.25, 1.5, 2.0 and 3.25, 0.0, 4.0, 1.0
abbrev pub two_records : List ℕ
two_records = float 224 63 (float 208 191 (float 248 63 (float 0 64 (float 10 64 (float 0 0 (float 16 64 (float 240 63 [])))))))

-- the stops left, bottom, right, top that are given, by the sum of their weights, and what is printed
abbrev pub Covers : (left bottom right top : ℤ) (given : ℕ) → String → Type 0
Covers left bottom right top given out = cover_said (record { left = left; bottom = bottom; right = right; top = top }) given two_records ≡ printed (ascii out)

pub record CoverSaid : Type 0 where
  -- no stop: both, in their order
  pub free : Covers (pos 9) (pos 9) (pos 9) (pos 9) 0 "LAYER\t2\t0\nRECT\t0\t-1\t2\t2\nRECT\t3\t0\t4\t1\n"
  -- each stop alone; one that is not given has no say
  pub left : Covers (pos 2) (pos 9) (negsuc 8) (negsuc 8) 1 "LAYER\t1\t0\nRECT\t3\t0\t4\t1\n"
  pub bottom : Covers (pos 9) (pos 2) (negsuc 8) (negsuc 8) 2 "LAYER\t1\t0\nRECT\t0\t-1\t2\t2\n"
  pub right : Covers (pos 9) (pos 9) (pos 3) (negsuc 8) 4 "LAYER\t1\t0\nRECT\t0\t-1\t2\t2\n"
  pub top : Covers (pos 9) (pos 9) (negsuc 8) (negsuc 0) 8 "LAYER\t0\t0\n"
  -- a strip with both stops, across and upward
  pub across : Covers (pos 2) (pos 9) (pos 4) (negsuc 8) 5 "LAYER\t1\t0\nRECT\t3\t0\t4\t1\n"
  pub upward : Covers (pos 9) (pos 2) (negsuc 8) (pos 3) 10 "LAYER\t1\t0\nRECT\t0\t-1\t2\t2\n"
  -- bytes that are left over, and a strip whose stops are not in order
  pub left_over : cover_said (record { left = pos 0; bottom = pos 0; right = pos 0; top = pos 0 }) 0 (7 ∷ []) ≡ refused 20
  pub disorder : cover_said (record { left = pos 1; bottom = pos 0; right = pos 0; top = pos 0 }) 5 [] ≡ refused 21

pub record Whole : Type 0 where
  pub texts : TextSaid
  pub classes : (s : Shape) (cells : List ℤ) → ClassesSaid s cells
  pub hours : (s : Shape) (cells : List ℤ) (windows : List ℕ) → HoursSaid s cells windows
  pub called : (stops : Rect) (given : ℕ) (t : List ℕ) → CoverCalled stops given t
  pub covers : CoverSaid
