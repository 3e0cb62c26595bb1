-- Laws of the command `classes`: what the crossing report's answer and its table tell.
use mathlib.Core.Path.{◌≡◌, refl, sym, ap, ◌∙◌}
use mathlib.Core.List.{List, [], ◌∷◌, ◌++◌}
use mathlib.Core.Option.{none}
use Prim.Native.Nat.{ℕ, zero, suc, ◌≤◌}
use native.Mathlib.Omega.{arith}
use lib.IntN.{ℤ}
use lib.ListN.{length, length-append}
use Rattle.lists.proofs.Tests.{clash}
use Rattle.lists.proofs.Kept.{length-upto}
use Rattle.totals.specs.declared.Total.{Total}
use Rattle.totals.specs.Totals.{Kept}
use Rattle.plan.specs.declared.Shape.{Shape}
use Rattle.plan.specs.Plan.{layers, Sound, grown}
use Rattle.sweep.specs.Sweep.{sweep_order}
use Rattle.join.specs.Table.{plan_table}
use Rattle.rows.specs.Tables.{rows_in}
use Rattle.rows.specs.inner.TableRows.{TableRows}
use Rattle.rows.proofs.TableRows.{table-rows}
use Rattle.crossings.specs.Crossings.{class_in}
use Rattle.crossings.specs.ClassCall.{count_of, class_counts}
use Rattle.crossings.proofs.Answers.{cause-three}
use Rattle.paging.specs.Answers.{Run}
use Rattle.std.specs.Prelude.{Err}
use Rattle.paging.specs.Answers.{ran}
use Rattle.paging.specs.Calls.{run_call, run_values}
use Rattle.crossing_report.specs.CrossingCall.{CrossingValues, crossing_run_cause, crossing_call, crossing_table}
use Rattle.crossing_report.specs.Theorems.{CrossingReports}
use Rattle.crossing_report.proofs.Theorems.{tallies}
use Rattle.printing.specs.Lines.{total_line}
use Rattle.printing.specs.inner.Parts.{FitsAt}
use Rattle.printing.proofs.Lines.{total-few}
use Rattle.reporting.specs.Report.{run_table_cells, run_work_cells}
use Rattle.reporting.proofs.Runs.{is-done}
use Rattle.lists.specs.inner.Stores.{Put}
use Rattle.outcomes.specs.Outcomes.{Told, done, refused, done_reply}
use Rattle.outcomes.proofs.Outcomes.{told_same, told-done}
use Rattle.outcomes.specs.inner.Rooms.{Room, room_for_all}
use Rattle.listing.specs.Lines.{classed_lines, class_lines}
use Rattle.listing.specs.Classes.{plan_classes}
use Rattle.listing.specs.inner.Parts.{Crossed}
use Rattle.listing.proofs.Lengths.{with-few, classes-few}
use Rattle.listing.proofs.Runs.{Finished, finished}
use Rattle.listing.proofs.Crossings.{same-crossing, passed, ran-done, counted}

-- the report's answer and its table
pub crossed : (s : Shape) (cells : List ℤ) (order lent : List ℕ) (told : CrossingValues) (table : List ℕ)
    → Sound s cells → order ≡ sweep_order (grown s cells) → length lent ≡ run_table_cells
    → told ≡ crossing_call s cells order lent run_work_cells → table ≡ crossing_table s cells order lent run_work_cells → Crossed s cells told table
crossed s cells order lent told table sound o long e f =
    record { sound = sound; lent = lent; long = long; answer = rw o at e; filled = rw o at f }

module _ (s : Shape) (cells : List ℤ) (told : CrossingValues) (table : List ℕ) (h : Crossed s cells told table) where
  abbrev order : List ℕ
  order = sweep_order (grown s cells)

  abbrev its : ℕ
  its = crossing_run_cause s cells order h.lent run_work_cells

  reports : CrossingReports s cells order h.lent run_work_cells its (crossing_call s cells order h.lent run_work_cells) (crossing_table s cells order h.lent run_work_cells)
  reports = tallies.reports s cells order h.lent run_work_cells h.sound.typed

  run-told : told.run ≡ (crossing_call s cells order h.lent run_work_cells).run
  run-told = ap (λ (r : CrossingValues). r.run) h.answer

  -- what is said where it refuses
  pub crossed-refused : (c : ℕ) → told.run ≡ Err c → plan_classes s cells ≡ refused c
  unfolding plan_classes
  crossed-refused c e = go its refl
    where
      go : (n : ℕ) → its ≡ n → plan_classes s cells ≡ refused c
      go zero z = clash (ran-done s cells order h.lent run_work_cells z) (ap is-done (sym (reports.run z).0 ∙ (sym run-told ∙ e)))
      go (suc n) z =
          let q : suc n ≡ c = ap (λ (r : Run). (run_values r).number) (sym (reports.refused n z).0 ∙ (sym run-told ∙ e)) in
          rw (sym (same-crossing s cells h.lent h.long) ∙ z) (ap refused q)

  module _ (rows probes : ℕ) (area total : Total) (e : told.run ≡ ran rows probes area total) where
    zero-cause : its ≡ 0
    zero-cause = go its refl
      where
        go : (n : ℕ) → its ≡ n → its ≡ 0
        go zero z = z
        go (suc n) z = clash (sym (ap is-done (sym e ∙ (run-told ∙ (reports.refused n z).0)))) refl

    run_is : told.run ≡ run_call none s cells order h.lent run_work_cells
    run_is = run-told ∙ (reports.run zero-cause).0

    fin : Finished none s cells rows probes total table
    fin = finished none s cells h.sound h.lent h.long told.run table run_is (h.filled ∙ (reports.run zero-cause).2) rows probes area total e

    counts-are : told.counts ≡ class_counts (layers s cells) (plan_table s cells)
    counts-are = ap (λ (r : CrossingValues). r.counts) h.answer ∙ counted s cells order h.lent run_work_cells zero-cause

    -- what is said where it is done
    abbrev pub lines : List ℕ
    lines = classed_lines (layers s cells) (rows_in s.k rows table) ++ (class_lines 0 told.counts ++ total_line rows probes total)

    pub crossed-lines : plan_classes s cells ≡ done lines
    unfolding plan_classes
    crossed-lines = rw (sym (same-crossing s cells h.lent h.long) ∙ zero-cause, fin.read, counts-are, fin.many, fin.walked, fin.ground)

    pub crossed-rows : TableRows s.sizes s.k (grown s cells) table rows
    crossed-rows = table-rows s cells table rows h.sound fin.read

    pub crossed-three : 3 ≤ s.k
    crossed-three = cause-three s cells (passed s cells order h.lent run_work_cells zero-cause).0

    pub crossed-kept : Kept total
    crossed-kept = fin.kept

    lines-few : length lines ≤ room_for_all
    lines-few =
        rw fin.read (omega (
          arith,
          length-append (classed_lines (layers s cells) (plan_table s cells)) (class_lines 0 told.counts ++ total_line rows probes total),
          length-append (class_lines 0 told.counts) (total_line rows probes total),
          with-few (λ row. class_in (layers s cells) row ∷ []) (λ row. omega arith) (layers s cells) (plan_table s cells),
          classes-few 0 told.counts,
          ap length counts-are,
          length-upto (count_of (layers s cells) (plan_table s cells)) 0 17,
          total-few rows probes total,
          fin.many,
          fin.few.0,
          fin.few.1,
        ))

    pub crossed-room : (out err : List ℕ) → Room out err → FitsAt out 0 lines
    crossed-room out err r = record { fits = omega (arith, lines-few, r.answer) }

    -- they are told
    pub crossed-told : (out err after : List ℕ) (n : ℕ) → Room out err → Put out 0 lines after n → Told (plan_classes s cells) out err after err (done_reply n)
    crossed-told out err after n r p =
        told_same (done lines) out err after err _ (plan_classes s cells) (told-done out err lines after n (omega (arith, lines-few, r.answer)) p) crossed-lines
