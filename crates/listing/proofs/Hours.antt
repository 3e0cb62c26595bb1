-- Laws of the command `hours`: what the timed run's answer and its table tell, and a row's line with its shared minutes.
use mathlib.Core.Path.{◌≡◌, sym, ◌∙◌}
use mathlib.Core.List.{List, [], ◌∷◌, ◌++◌}
use mathlib.Core.Option.{some}
use mathlib.Core.Bool.{true}
use Prim.Native.Nat.{ℕ, zero, suc, ◌-◌, ◌*◌, ◌≤◌}
use native.Mathlib.Omega.{arith}
use lib.IntN.{ℤ}
use lib.ListN.{length, take, length-append}
use Rattle.lists.specs.Lists.{sum}
use Rattle.lists.specs.inner.Stores.{Put}
use Rattle.lists.proofs.Tests.{both}
use Rattle.lists.proofs.Lists.{all_map, all-of-mem}
use Rattle.lists.proofs.Kept.{all_keep}
use Rattle.totals.specs.declared.Total.{Total}
use Rattle.totals.specs.Totals.{Kept}
use Rattle.decimal.specs.Numerals.{decimal}
use Rattle.geometry.specs.Rectangles.{nonempty}
use Rattle.plan.specs.declared.Shape.{Shape}
use Rattle.plan.specs.Plan.{Layer, layers_of, sizes_of, layers, Sound, grown}
use Rattle.plan.specs.Frames.{Framed}
use Rattle.plan.proofs.Growing.{framed}
use Rattle.sweep.specs.Sweep.{sweep_order}
use Rattle.join.specs.Join.{rects, common_of}
use Rattle.join.specs.Table.{sizes_in, table_of}
use Rattle.join.proofs.Theorems.{tables}
use Rattle.rows.specs.RowCall.{fits, is_row}
use Rattle.rows.proofs.RowCall.{sizes-of}
use Rattle.rows.proofs.Theorems as Row
use Rattle.rows.specs.Tables.{rows_in}
use Rattle.rows.specs.inner.TableRows.{TableRows}
use Rattle.windows.specs.declared.Window.{Window}
use Rattle.windows.specs.Windows.{hours_of, shares_minute}
use Rattle.timed.specs.Timed.{timed_table_of}
use Rattle.paging.specs.Answers.{Run}
use Rattle.std.specs.Prelude.{Err}
use Rattle.paging.specs.Answers.{ran as told_run}
use Rattle.paging.specs.Calls.{run_cause, run_call, run_table}
use Rattle.printing.specs.Lines.{fields_end, row_line, total_line}
use Rattle.printing.specs.inner.Parts.{FitsAt}
use Rattle.printing.proofs.Lines.{total-few}
use Rattle.reporting.specs.Report.{run_table_cells, run_work_cells, empty_table}
use Rattle.reporting.proofs.Runs.{refusal}
use Rattle.outcomes.specs.Outcomes.{Told, done, refused, done_reply}
use Rattle.outcomes.specs.inner.Rooms.{Room, room_for_all}
use Rattle.outcomes.proofs.Outcomes.{told_same, told-done}
use Rattle.listing.specs.Lines.{row_line_with}
use Rattle.listing.specs.Hours.{minutes_in, hour_lines, hour_report, timed_said}
use Rattle.listing.specs.inner.Parts.{Ran}
use Rattle.listing.proofs.Lines.{row_first, row-some, row_last, row_more}
use Rattle.listing.proofs.Lengths.{with-few}
use Rattle.listing.proofs.Runs.{same-cause, Finished, finished}

-- ---- a row's line
-- a row has a place in each layer
pub row_fits : (ns : List ℕ) (cells : List ℤ) (row : List ℕ) → is_row (layers_of ns cells) row ≡ true → fits ns row ≡ true
unfolding is_row
row_fits ns cells row e =
    let ls = layers_of ns cells in
    rw (sizes-of ns cells) at (both (fits (sizes_in ls) row) (nonempty (common_of (rects ls row))) e).0

-- there is one
pub some-layer : (k : ℕ) (sizes : List ℕ) (cells : List ℤ) → Framed (take k sizes) cells → 1 ≤ k
some-layer zero sizes cells f = absurd (omega (arith, f.some))
some-layer (suc k) sizes cells f = omega arith

module _ (ns hours : List ℕ) (ls : List Layer) (row buf : List ℕ) (at : ℕ) where
  pub hour-first : FitsAt buf at (row_line_with (minutes_in ns hours) ls row) → FitsAt buf at (row_line ls row)
  hour-first h = row_first (minutes_in ns hours) ls row buf at h

  module _ (mid : List ℕ) (m : ℕ) (p : Put buf at (row_line ls row) mid m) where
    pub hour-some : 1 ≤ m
    hour-some = row-some (minutes_in ns hours) ls row buf at mid m p

    module _ (w : Window) (e : w ≡ hours_of ns hours row) where
      pub hour-last : FitsAt buf at (row_line_with (minutes_in ns hours) ls row) → FitsAt mid (m - 1) (fields_end (decimal w.from ∷ decimal w.to ∷ []))
      hour-last h = row_last (minutes_in ns hours) ls row buf at mid m p (decimal w.from ∷ decimal w.to ∷ []) (rw e) h

      pub hour-more : (last : List ℕ) (r : ℕ) → Put mid (m - 1) (fields_end (decimal w.from ∷ decimal w.to ∷ [])) last r → Put buf at (row_line_with (minutes_in ns hours) ls row) last r
      hour-more last r q = row_more (minutes_in ns hours) ls row buf at mid m p (decimal w.from ∷ decimal w.to ∷ []) (rw e) last r q

-- the windows of the first layers are among those of all
sum-part : (k : ℕ) (l : List ℕ) → sum (take k l) ≤ sum l
sum-part zero l = omega arith
sum-part (suc k) [] = omega arith
sum-part (suc k) (n ∷ l) = omega (arith, sum-part k l)

pub hours-enough : (s : Shape) (hours : List ℕ) → length hours ≡ 2 * sum s.sizes → 2 * sum (sizes_of s) ≤ length hours
hours-enough s hours e = omega (arith, e, sum-part s.k s.sizes)

-- ---- the run
pub ran : (s : Shape) (cells : List ℤ) (hours order lent : List ℕ) (run : Run) (table : List ℕ)
    → Sound s cells → order ≡ sweep_order (grown s cells) → length lent ≡ run_table_cells
    → run ≡ run_call (some hours) s cells order lent run_work_cells → table ≡ run_table (some hours) s cells order lent run_work_cells → Ran (some hours) s cells run table
ran s cells hours order lent run table sound o long e f =
    record { sound = sound; lent = lent; long = long; answer = rw o at e; filled = rw o at f }

module _ (s : Shape) (cells : List ℤ) (hours : List ℕ) (run : Run) (table : List ℕ) (h : Ran (some hours) s cells run table) where
  -- what is said where it refuses
  pub timed-refused : (c : ℕ) → run ≡ Err c → timed_said s cells hours ≡ refused c
  unfolding timed_said run_call
  timed-refused c e =
      refusal _ _ _ _ (done (hour_report s cells hours)) refused (run_cause (some hours) s cells (sweep_order (grown s cells)) empty_table run_work_cells) c
      (rw (same-cause (some hours) s cells h.lent h.long) at (sym e ∙ h.answer))

  module _ (rows probes : ℕ) (area total : Total) (e : run ≡ told_run rows probes area total) where
    fin : Finished (some hours) s cells rows probes total table
    fin = finished (some hours) s cells h.sound h.lent h.long run table h.answer h.filled rows probes area total e

    -- what is said where it is done
    abbrev lines : List ℕ
    lines = hour_lines (sizes_of s) hours (layers s cells) (rows_in s.k rows table) ++ total_line rows probes total

    timed-lines : timed_said s cells hours ≡ done lines
    unfolding timed_said
    timed-lines = rw (fin.passed, fin.read, fin.many, fin.walked, fin.ground)

    pub timed-rows : TableRows s.sizes s.k (grown s cells) table rows
    unfolding timed_table_of
    timed-rows =
        let f = framed s cells h.sound in
        let t = tables.tables (sizes_of s) (grown s cells) f.1 in
        let all = all-of-mem (table_of (sizes_of s) (grown s cells)) (λ row m. (((Row.rows).rows s cells h.sound).names row).1 (t.is.sound row m)) in
        record { inside = f.0; framed = f.1; all = rw fin.read (all_map (λ row p. p.0) (all_keep (shares_minute (sizes_of s) hours) all)) }

    pub timed-kept : Kept total
    timed-kept = fin.kept

    lines-few : length lines ≤ room_for_all
    lines-few =
        let table = timed_table_of (sizes_of s) (grown s cells) hours in
        rw fin.read (omega (
          arith,
          length-append (hour_lines (sizes_of s) hours (layers s cells) table) (total_line rows probes total),
          with-few (minutes_in (sizes_of s) hours) (λ row. omega arith) (layers s cells) table,
          total-few rows probes total,
          fin.many,
          fin.few.0,
          fin.few.1,
        ))

    pub timed-room : (out err : List ℕ) → Room out err → FitsAt out 0 lines
    timed-room out err r = record { fits = omega (arith, lines-few, r.answer) }

    pub timed-told : (out err after : List ℕ) (n : ℕ) → Room out err → Put out 0 lines after n → Told (timed_said s cells hours) out err after err (done_reply n)
    timed-told out err after n r p =
        told_same (done lines) out err after err _ (timed_said s cells hours) (told-done out err lines after n (omega (arith, lines-few, r.answer)) p) timed-lines
