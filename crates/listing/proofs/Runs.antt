-- Laws of whole runs, timed or not: what their answers and tables tell, and the room that their lines take.
use mathlib.Core.Path.{◌≡◌, sym, ◌∙◌}
use mathlib.Core.List.{List}
use mathlib.Core.Option.{Option}
use Prim.Native.Nat.{ℕ, ◌*◌, ◌/◌, ◌≤◌}
use native.Mathlib.Nat.{le_trans, mul-le-mul_left, mul-div-le}
use native.Mathlib.Omega.{arith}
use lib.IntN.{ℤ}
use lib.Dec.{leb}
use lib.ListN.{length}
use borrow.Author.Tests.{leb-true}
use Rattle.totals.specs.declared.Total.{Total}
use Rattle.totals.specs.Totals.{Kept}
use Rattle.totals.proofs.Totals.{kept-total}
use Rattle.plan.specs.declared.Shape.{Shape}
use Rattle.plan.specs.Causes.{unless, ◌or_else◌}
use Rattle.plan.specs.Plan.{layers, Sound, grown}
use Rattle.plan.proofs.Plan.{or-else-zero, unless-zero}
use Rattle.sweep.specs.Sweep.{sweep_order}
use Rattle.rows.specs.Tables.{rows_in, cells_of}
use Rattle.rows.proofs.Tables.{cells-long}
use Rattle.ground.specs.Union.{grounds}
use Rattle.ground.proofs.Theorems.{union-holds}
use Rattle.paging.specs.Answers.{Run}
use Rattle.paging.specs.Answers.{ran}
use Rattle.paging.specs.Overlays.{overlay_of}
use Rattle.paging.specs.Pages.{room}
use Rattle.paging.specs.Calls.{run_cause, run_call, run_table, ground_once}
use Rattle.paging.specs.Inner.{cause_before}
use Rattle.paging.proofs.Overlays.{laws-of}
use Rattle.paging.proofs.Runs.{runs-hold}
use Rattle.reporting.specs.Report.{run_table_cells, run_work_cells, empty_table}
use Rattle.reporting.proofs.Reports.{empty-long}
use Rattle.reporting.proofs.Runs.{success}

-- a run that is not refused has its order and windows, and cells enough to work with
run-passed : (windows : Option (List ℕ)) (s : Shape) (cells : List ℤ) (order table : List ℕ) (work : ℕ) → run_cause windows s cells order table work ≡ 0
    → (cause_before windows s cells order ≡ 0) × (2 * length (overlay_of windows s cells).table ≤ work)
unfolding run_cause
run-passed windows s cells order table work e =
    let o = overlay_of windows s cells in
    let q = or-else-zero (cause_before windows s cells order or_else unless (leb (length o.table) (room o table)) 7) _ e in
    ((or-else-zero (cause_before windows s cells order) _ q.0).0, leb-true (2 * length o.table) work (unless-zero (leb (2 * length o.table) work) 18 q.1))

module _ (windows : Option (List ℕ)) (s : Shape) (cells : List ℤ) where
  abbrev order : List ℕ
  order = sweep_order (grown s cells)

  abbrev rows_of : List (List ℕ)
  rows_of = (overlay_of windows s cells).table

  -- the cause goes by the table's length alone
  pub same-cause : (table : List ℕ) → length table ≡ run_table_cells → run_cause windows s cells order table run_work_cells ≡ run_cause windows s cells order empty_table run_work_cells
  unfolding run_cause
  same-cause table long = rw (long, empty-long)

  -- what a run that is done tells
  pub record Finished (rows probes : ℕ) (total : Total) (table : List ℕ) : Type 0 where
    pub passed : run_cause windows s cells order empty_table run_work_cells ≡ 0
    pub many : rows ≡ length rows_of
    pub walked : probes ≡ length (overlay_of windows s cells).walk
    pub ground : total ≡ ground_once (layers s cells) rows_of
    pub read : rows_in s.k rows table ≡ rows_of
    pub few : (2 * rows ≤ run_table_cells) × (length (cells_of rows_of) ≤ run_table_cells)
    pub kept : Kept total

  module _ (sound : Sound s cells) (lent : List ℕ) (long : length lent ≡ run_table_cells) (run : Run) (table : List ℕ)
      (answer : run ≡ run_call windows s cells order lent run_work_cells) (filled : table ≡ run_table windows s cells order lent run_work_cells)
      (rows probes : ℕ) (area total : Total) (e : run ≡ ran rows probes area total) where
    pub finished : Finished rows probes total table
    unfolding run_call
    finished =
        let d = success _ _ _ _ (run_cause windows s cells order lent run_work_cells) rows probes area total (sym e ∙ answer) in
        let p = run-passed windows s cells order lent run_work_cells d.0 in
        let r = runs-hold windows s cells order lent run_work_cells sound p.0 p.1 in
        let o = overlay_of windows s cells in
        let k = length o.sizes in
        let n = length o.table in
        let c = cells-long k (laws-of windows s cells sound).long in
        let t = r.succeeds.0 d.0 in
        let q : n ≤ length lent / k = omega arith in
        let m : k * n ≤ run_table_cells = le_trans (mul-le-mul_left {m = n} {n = run_table_cells / k} k (rw long at q)) (mul-div-le run_table_cells k) in
        record {
          passed = sym (same-cause lent long) ∙ d.0;
          many = d.1;
          walked = d.2;
          ground = d.3;
          read = rw (filled, d.1) (r.rows d.0);
          few = (omega (arith, d.1, p.1), omega (arith, c, m));
          kept = kept-total total _ d.3 (omega (arith, union-holds.bound (grounds (layers s cells) o.table)));
        }
