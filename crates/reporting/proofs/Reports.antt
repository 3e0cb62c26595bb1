-- Laws of the report on a plan: the buffers that it takes, and the room.
use mathlib.Core.Path.{◌≡◌, refl, sym, ◌∙◌}
use mathlib.Core.List.{List, ◌++◌}
use mathlib.Core.Option.{none}
use Prim.Native.Nat.{ℕ, zero, suc, ◌*◌, ◌/◌, ◌≤◌}
use native.Mathlib.Nat.{le_trans, mul-le-mul_left, mul-le-mul_right, mul-div-le}
use native.Mathlib.Omega.{arith}
use lib.IntN.{ℤ}
use lib.ListN.{length, length-append, take, length-take, length-replicate}
use Rattle.lists.specs.Lists.{sum}
use Rattle.totals.specs.declared.Total.{Total}
use Rattle.plan.specs.declared.Shape.{Shape}
use Rattle.plan.specs.Causes.{on_cause}
use Rattle.plan.specs.Plan.{count, sizes_of, layers, Sound, grown}
use Rattle.plan.specs.Limits.{most_rects}
use Rattle.sweep.specs.Sweep.{sweep_order, order_after}
use Rattle.plan.proofs.Plan.{few}
use Rattle.plan.proofs.Growing.{framed}
use Rattle.sweep.proofs.Orders.{order-made}
use Rattle.join.specs.Table.{table_of}
use Rattle.paging.specs.Pages.{room}
use Rattle.paging.specs.Calls.{run_cause}
use Rattle.rows.proofs.Tables.{cells-long}
use Rattle.paging.proofs.Overlays.{lawful}
use Rattle.sweep.proofs.Theorems.{order-passes}
use Rattle.paging.proofs.Runs.{run_holds, run-passed}
use Rattle.printing.specs.Lines.{row_lines, total_line, refused_line}
use Rattle.printing.specs.inner.Parts.{FitsAt}
use Rattle.printing.proofs.Lines.{rows_few, total-few, refused-few}
use Rattle.reporting.specs.Report.{run_table_cells, run_work_cells, empty_table, table_report, room_for_any}
use Rattle.reporting.specs.inner.Parts.{plan_cells, Lent, plan_cause, plan_report}
use Rattle.paging.specs.Overlays.{overlay}

pub empty-long : length empty_table ≡ run_table_cells
unfolding empty_table
empty-long = length-replicate {A = ℕ} run_table_cells 0

-- the order maker makes the sweep order of a sound plan
pub swept : (s : Shape) (cells : List ℤ) (order after : List ℕ) → Sound s cells → length order ≡ count cells → after ≡ order_after s cells order → after ≡ sweep_order (grown s cells)
swept s cells order after sound h e = e ∙ sym (order-made s cells order sound (sweep_order (grown s cells)) h refl).1.1

-- ---- the plan's cells, n rectangles of four, and the parts of the buffers that it takes
module _ (s : Shape) (lent : List ℤ) (n : ℕ) (e : n ≡ sum s.sizes) where
  pub lent-report : plan_report s (plan_cells s lent) ≡ plan_report s (take (4 * n) lent)
  lent-report = rw e

  pub lent-cause : plan_cause s (plan_cells s lent) ≡ plan_cause s (take (4 * n) lent)
  lent-cause = rw e

  module _ (h : Lent s lent) where
    pub lent-inside : 4 * n ≡ length (take (4 * n) lent)
    lent-inside = omega (arith, length-take (4 * n) lent, h.fits)

    pub lent-sound : Sound s (take (4 * n) lent)
    lent-sound = rw e h.sound

    pub lent-few : count (take (4 * n) lent) ≤ most_rects
    lent-few = few s (take (4 * n) lent) lent-sound

pub part-long : (order : List ℕ) (n : ℕ) → n ≤ length order → length (take n order) ≡ n
part-long order n h = omega (arith, length-take n order)

module _ (s : Shape) (cells : List ℤ) (sound : Sound s cells) (order table : List ℕ) (o : order ≡ sweep_order (grown s cells)) (long : length table ≡ run_table_cells) where
  -- the cause goes by the table's length alone
  pub same-cause : run_cause none s cells order table run_work_cells ≡ run_cause none s cells (sweep_order (grown s cells)) empty_table run_work_cells
  unfolding run_cause
  same-cause = rw (o, long, empty-long)

  -- rows that the run's table takes leave room for the total
  pub lines_fit : (rows probes : ℕ) (total : Total) → length (table_of (sizes_of s) (grown s cells)) ≤ room (overlay s cells) table
      → length (row_lines (layers s cells) (table_of (sizes_of s) (grown s cells)) ++ total_line rows probes total) ≤ room_for_any
  lines_fit rows probes total h =
      let all = table_of (sizes_of s) (grown s cells) in
      let n = length all in
      let k = length (sizes_of s) in
      let f = (framed s cells sound).1 in
      let c = cells-long k (lawful (sizes_of s) (grown s cells) f).long in
      let q : n ≤ length table / k = omega arith in
      let m : k * n ≤ run_table_cells = le_trans (mul-le-mul_left {m = n} {n = run_table_cells / k} k (rw long at q)) (mul-div-le run_table_cells k) in
      let t : 2 * n ≤ k * n = mul-le-mul_right n f.some in
      omega (
        arith,
        length-append (row_lines (layers s cells) all) (total_line rows probes total),
        rows_few (layers s cells) all,
        total-few rows probes total,
        c,
        m,
        t,
      )

-- a refusal has room where any report has
pub refused-room : (out : List ℕ) (cause : ℕ) → room_for_any ≤ length out → FitsAt out 0 (refused_line cause)
refused-room out cause h = record { fits = omega (arith, refused-few cause) }

-- no report on a plan is longer
pub plan-longest : (s : Shape) (cells : List ℤ) → Sound s cells → length (plan_report s cells) ≤ room_for_any
unfolding plan_report plan_cause
plan-longest s cells sound = go (run_cause none s cells (sweep_order (grown s cells)) empty_table run_work_cells) refl
  where
    go : (cause : ℕ) → run_cause none s cells (sweep_order (grown s cells)) empty_table run_work_cells ≡ cause → length (on_cause cause (table_report s cells) refused_line) ≤ room_for_any
    go zero e = lines_fit s cells sound (sweep_order (grown s cells)) empty_table refl empty-long _ _ _ ((run_holds s cells (sweep_order (grown s cells)) empty_table run_work_cells sound (order-passes s cells sound.passed) (run-passed s cells _ empty_table run_work_cells e).1).succeeds.0 e)
    go (suc cause) e = omega (arith, refused-few (suc cause))
