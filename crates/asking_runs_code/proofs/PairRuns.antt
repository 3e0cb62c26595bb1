-- Laws of the run of a plan of two layers: it is never refused, and its table has the rows whose lines are put.
use mathlib.Core.Path.{◌≡◌, sym, ap, ◌∙◌}
use mathlib.Core.Bool.{Bool, true, false}
use mathlib.Core.List.{List}
use mathlib.Core.Option.{none}
use Prim.Native.Nat.{ℕ, ◌+◌, ◌≤◌, ◌<◌}
use native.Mathlib.Omega.{arith}
use lib.IntN.{ℤ}
use lib.ListN.{length, take, length-take}
use Rattle.lists.specs.inner.Stores.{Put}
use Rattle.lists.proofs.Tests.{clash}
use Rattle.plan.specs.declared.Shape.{Shape}
use Rattle.plan.specs.Plan.{count, layers, grown}
use Rattle.plan.specs.Limits.{most_rects}
use Rattle.plan.proofs.Plan.{few}
use Rattle.plan.proofs.Theorems.{plans}
use Rattle.sweep.specs.Sweep.{sweep_order}
use Rattle.sweep.proofs.Theorems.{order-passes}
use Rattle.join.specs.Table.{plan_table}
use Rattle.rows.specs.Tables.{rows_in}
use Rattle.rows.specs.inner.TableRows.{TableRows}
use Rattle.rows.proofs.TableRows.{table-rows}
use Rattle.totals.specs.declared.Total.{Total}
use Rattle.paging.specs.Answers.{Run}
use Rattle.std.specs.Prelude.{Ok, Err}
use Rattle.paging.specs.Answers.{ran as finished}
use Rattle.paging.specs.Overlays.{overlay}
use Rattle.paging.specs.Pages.{room}
use Rattle.paging.specs.Calls.{run_cause, run_call, run_table, run_values, WorkAfter}
use Rattle.paging.specs.Theorems.{RunHolds}
use Rattle.paging.proofs.Runs.{run_holds}
use Rattle.printing.specs.inner.Parts.{FitsAt}
use Rattle.asking_runs_code.specs.declared.Listed.{Listed}
use Rattle.asking_runs_code.specs.Parts.{lines_of_two}
use Rattle.asking_runs_code.specs.Listing.{most_pair_cells, Lent, Twofold, TwoListable, TwoListed, Ran}

abbrev is-done : Run → Bool
is-done (Err cause) = false
is-done (Ok done) = true

module _ (s : Shape) (cells : List ℤ) (lower higher : ℕ) (t : Twofold s cells lower higher) where
  abbrev order : List ℕ
  order = sweep_order (grown s cells)

  -- the order has at most as many cells as there are rectangles
  pub order-fits : count cells ≤ most_rects
  order-fits = few s cells t.sound

  pub order-long : (orders : List ℕ) → most_rects ≤ length orders → length (take (count cells) orders) ≡ count cells
  order-long orders h = omega (arith, length-take (count cells) orders, order-fits)

  module _ (before : List ℕ) (long : length before ≡ most_pair_cells) where
    -- a table of so many cells takes all rows
    rooms : room (overlay s cells) before ≡ 262144
    rooms = rw ((plans.frames s cells t.sound).2, long, t.two) (omega arith)

    run-told : RunHolds s cells (overlay s cells) before (run_cause none s cells order before most_pair_cells) (run_call none s cells order before most_pair_cells) (run_table none s cells order before most_pair_cells)
    run-told = run_holds s cells order before most_pair_cells t.sound (order-passes s cells t.sound.passed) (omega (arith, t.few))

    never-refused : run_cause none s cells order before most_pair_cells ≡ 0
    never-refused = run-told.succeeds.1 (omega (arith, rooms, t.few))

  -- what the run left
  pub ran : (orders lent table : List ℕ) (work after : List ℤ) (run : Run) → orders ≡ order → Lent lent work → run ≡ run_call none s cells orders lent (length work)
      → table ≡ run_table none s cells orders lent (length work) → Ran s cells run table
  ran orders lent table work after run o l e f =
      record { before = lent; long = l.takes; answer = rw (o, l.works) at e; filled = rw (o, l.works) at f }

  pub lent-after : (orders lent table : List ℕ) (work after : List ℤ) → orders ≡ order → Lent lent work → table ≡ run_table none s cells orders lent (length work)
      → WorkAfter (run_cause none s cells orders lent (length work)) work after → Lent table after
  lent-after orders lent table work after o l f w =
      record { takes = rw (rw (o, l.works) at f) ((run-told lent l.takes).long ∙ l.takes); works = w.long ∙ l.works }

  module _ (run : Run) (table : List ℕ) (r : Ran s cells run table) where
    done-is : is-done run ≡ true
    done-is = ap is-done (r.answer ∙ (run-told r.before r.long).done (never-refused r.before r.long))

    pub not-refused : (cause : ℕ) → run ≡ Err cause → ⊥
    not-refused cause e = clash done-is (ap is-done e)

    module _ (rows probes : ℕ) (area total : Total) (e : run ≡ finished rows probes area total) where
      rows_are : rows ≡ length (plan_table s cells)
      rows_are = ap (λ (x : Run). (run_values x).rows) (sym e ∙ (r.answer ∙ (run-told r.before r.long).done (never-refused r.before r.long)))

      read : rows_in s.k rows table ≡ plan_table s cells
      read = rw (r.filled, rows_are) ((run-told r.before r.long).rows (never-refused r.before r.long))

      pub rows-ran : TableRows s.sizes s.k (grown s cells) table rows
      rows-ran = table-rows s cells table rows t.sound read

      module _ (out : List ℕ) (from : Listed) where
        pub rows_fit : TwoListable s cells lower higher out from → FitsAt out from.at (lines_of_two (layers s cells) lower higher (rows_in s.k rows table))
        rows_fit l = rw read l.fits

        pub count_fits : TwoListable s cells lower higher out from → from.rows + rows < 4294967296
        count_fits l = omega (arith, l.few, rows_are)

        pub rows-listed : (after : List ℕ) (at : ℕ) → Put out from.at (lines_of_two (layers s cells) lower higher (rows_in s.k rows table)) after at
            → TwoListed s cells lower higher out from after (record { at = at; rows = from.rows + rows })
        rows-listed after at p = record { put = rw read at p; count = ap (λ (n : ℕ). from.rows + n) rows_are }
