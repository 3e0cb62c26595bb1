-- Laws of the report on a whole run: what its answer and its table tell.
use mathlib.Core.Path.{◌≡◌, refl, sym, ap, ◌∙◌}
use mathlib.Core.Bool.{Bool, true, false}
use mathlib.Core.List.{List, ◌++◌}
use mathlib.Core.Option.{none}
use Prim.Native.Nat.{ℕ, zero, suc, ◌≤◌}
use native.Mathlib.Omega.{arith}
use lib.IntN.{ℤ}
use lib.ListN.{length}
use Rattle.lists.proofs.Tests.{clash}
use Rattle.totals.specs.declared.Total.{Total}
use Rattle.totals.specs.Totals.{Kept}
use Rattle.totals.proofs.Totals.{kept-total}
use Rattle.plan.specs.declared.Shape.{Shape}
use Rattle.plan.specs.Causes.{on_cause}
use Rattle.plan.specs.Plan.{sizes_of, layers, Sound, grown}
use Rattle.sweep.specs.Sweep.{sweep_order}
use Rattle.join.specs.Table.{table_of}
use Rattle.ground.specs.Union.{grounds}
use Rattle.ground.proofs.Theorems.{union-holds}
use Rattle.paging.specs.Overlays.{overlay}
use Rattle.paging.specs.Answers.{Run}
use Rattle.std.specs.Prelude.{Ok, Err}
use Rattle.paging.specs.Answers.{ran as finished}
use Rattle.paging.specs.Calls.{run_cause, run_call, run_table, run_values}
use Rattle.rows.specs.Tables.{rows_in}
use Rattle.sweep.proofs.Theorems.{order-passes}
use Rattle.paging.proofs.Runs.{run_holds, run-passed}
use Rattle.printing.specs.Lines.{row_lines, total_line, refused_line}
use Rattle.rows.specs.inner.TableRows.{TableRows}
use Rattle.rows.proofs.TableRows.{table-rows}
use Rattle.printing.specs.inner.Parts.{FitsAt}
use Rattle.lists.specs.inner.Stores.{Put}
use Rattle.printing.proofs.Puts.{put_same}
use Rattle.reporting.specs.Report.{run_table_cells, run_work_cells, empty_table, table_report, room_for_any}
use Rattle.reporting.specs.inner.Parts.{RanInto, plan_cause, plan_report, Printed}
use Rattle.reporting.proofs.Reports.{same-cause, lines_fit}

-- ---- the whole run's answers
abbrev pub is-done : Run → Bool
is-done (Err cause) = false
is-done (Ok done) = true

on_cause-id : (cause : ℕ) → on_cause cause 0 (λ n. n) ≡ cause
on_cause-id zero = refl
on_cause-id (suc cause) = refl

module _ (rows probes : ℕ) (area total : Total) where
  -- its answer for a cause
  abbrev pub answered : ℕ → Run
  answered cause = on_cause cause (finished rows probes area total) Err

  -- a refusal has its cause's number
  pub refusal : {A : Type 0} (printed : A) (line : ℕ → A) (cause c : ℕ) → Err c ≡ answered cause → on_cause cause printed line ≡ line c
  refusal printed line zero c e = clash refl (sym (ap is-done e))
  refusal printed line (suc cause) c e = ap line (sym (ap (λ (r : Run). (run_values r).number) e))

  pub success : (cause r p : ℕ) (a t : Total) → finished r p a t ≡ answered cause → (cause ≡ 0) × (r ≡ rows) × (p ≡ probes) × (t ≡ total)
  success zero r p a t e =
      (refl, ap (λ (x : Run). (run_values x).rows) e, ap (λ (x : Run). (run_values x).probes) e, ap (λ (x : Run). (run_values x).ground) e)
  success (suc cause) r p a t e = clash (sym (ap is-done e)) refl

-- the run's answer and its table
pub ran : (s : Shape) (cells : List ℤ) (order lent : List ℕ) (run : Run) (table : List ℕ)
    → Sound s cells → order ≡ sweep_order (grown s cells) → length lent ≡ run_table_cells
    → run ≡ run_call none s cells order lent run_work_cells → table ≡ run_table none s cells order lent run_work_cells → RanInto s cells run table
ran s cells order lent run table sound o long e f =
    record { sound = sound; lent = lent; long = long; answer = rw o at e; filled = rw o at f }

module _ (s : Shape) (cells : List ℤ) (run : Run) (table : List ℕ) (h : RanInto s cells run table) where
  -- what is printed where it refuses
  pub refused-cause : (c : ℕ) → run ≡ Err c → plan_cause s cells ≡ c
  unfolding run_call plan_cause
  refused-cause c e =
      sym (on_cause-id _) ∙ refusal _ _ _ _ 0 (λ n. n) (run_cause none s cells (sweep_order (grown s cells)) empty_table run_work_cells) c
      (rw (same-cause s cells h.sound (sweep_order (grown s cells)) h.lent refl h.long) at (sym e ∙ h.answer))

  pub refused-report : (c : ℕ) → run ≡ Err c → plan_report s cells ≡ refused_line c
  unfolding run_call plan_report plan_cause
  refused-report c e =
      refusal _ _ _ _ (table_report s cells) refused_line (run_cause none s cells (sweep_order (grown s cells)) empty_table run_work_cells) c
      (rw (same-cause s cells h.sound (sweep_order (grown s cells)) h.lent refl h.long) at (sym e ∙ h.answer))

  module _ (rows probes : ℕ) (area total : Total) (e : run ≡ finished rows probes area total) where
    -- what is printed where it succeeds, and the rows that the table has
    record Told : Type 0 where
      passes : plan_cause s cells ≡ 0
      is : plan_report s cells ≡ row_lines (layers s cells) (table_of (sizes_of s) (grown s cells)) ++ total_line rows probes total
      read : rows_in s.k rows table ≡ table_of (sizes_of s) (grown s cells)
      short : length (row_lines (layers s cells) (table_of (sizes_of s) (grown s cells)) ++ total_line rows probes total) ≤ room_for_any
      kept : Kept total

    told : Told
    unfolding run_call plan_report plan_cause
    told =
        let order = sweep_order (grown s cells) in
        let lent = h.lent in
        let d = success _ _ _ _ (run_cause none s cells order lent run_work_cells) rows probes area total (sym e ∙ h.answer) in
        let z : run_cause none s cells order empty_table run_work_cells ≡ 0 = sym (same-cause s cells h.sound order lent refl h.long) ∙ d.0 in
        let r = run_holds s cells order lent run_work_cells h.sound (order-passes s cells h.sound.passed) (run-passed s cells order lent run_work_cells d.0).1 in
        record {
          passes = z;
          is = rw (z, d.1, d.2, d.3);
          read = rw (h.filled, d.1) (r.rows d.0);
          short = lines_fit s cells h.sound order lent refl h.long rows probes total (r.succeeds.0 d.0);
          kept = kept-total total _ d.3 (omega (arith, union-holds.bound (grounds (layers s cells) (overlay s cells).table)));
        }

    printed : plan_report s cells ≡ row_lines (layers s cells) (rows_in s.k rows table) ++ total_line rows probes total
    printed = rw told.read told.is

    -- its lines are put
    pub run-printed : (out last : List ℕ) (size : ℕ) → Put out 0 (row_lines (layers s cells) (rows_in s.k rows table) ++ total_line rows probes total) last size
        → Printed (plan_cause s cells) (plan_report s cells) out last (record { told = Ok tt; size = size })
    run-printed out last size p = record { number = sym told.passes; put = put_same out 0 _ _ last size p printed }

    pub total_kept : Kept total
    total_kept = told.kept

    -- what is asked for where the lines are put
    pub rows_run : TableRows s.sizes s.k (grown s cells) table rows
    rows_run = table-rows s cells table rows h.sound told.read

    pub lines-room : (out : List ℕ) → room_for_any ≤ length out → FitsAt out 0 (row_lines (layers s cells) (rows_in s.k rows table) ++ total_line rows probes total)
    lines-room out k = rw told.read (record { fits = omega (arith, told.short) })
