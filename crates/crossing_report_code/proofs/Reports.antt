-- What the crossing report answers, in each of its cases.
use mathlib.Core.Path.{◌≡◌, refl, sym, ap, ◌∙◌, subst}
use mathlib.Core.List.{List}
use mathlib.Core.Bool.{Bool, true, false}
use mathlib.Core.Option.{none}
use Prim.Native.Nat.{ℕ, zero, suc, ◌≤◌}
use native.Mathlib.Omega.{arith}
use lib.IntN.{ℤ}
use lib.ListN.{length}
use lib.Seq.{length-take-le}
use Rattle.std.proofs.Math.Seq.{take-length}
use Rattle.lists.proofs.Tests.{clash}
use Rattle.totals.specs.declared.Total.{Total}
use Rattle.plan.specs.declared.Shape.{Shape}
use Rattle.plan.specs.Plan.{layers, sizes_of, Typed, grown}
use Rattle.plan.proofs.Growing.{framed}
use Rattle.join.specs.Table.{table_of}
use Rattle.crossings.specs.ClassCall.{crossing_cause, class_counts}
use Rattle.crossings.proofs.Answers.{cause-sound, cause-three}
use Rattle.paging.specs.Answers.{Run}
use Rattle.std.specs.Prelude.{Ok, Err}
use Rattle.paging.specs.Answers.{ran}
use Rattle.paging.specs.Overlays.{overlay}
use Rattle.paging.specs.Calls.{run_cause, run_call, run_table, run_values, WorkAfter}
use Rattle.crossing_report.specs.CrossingCall.{CrossingValues, crossing_run_cause, crossing_call, crossing_table}
use Rattle.rows.specs.Tables.{rows_in}
use Rattle.rows.specs.inner.TableRows.{TableRows}
use Rattle.rows.proofs.TableRows.{table-rows}
use Rattle.paging.proofs.Runs.{run_holds, run-passed}
use Rattle.crossing_report.proofs.Runs.{crossing-cause, crossing-table}
use Rattle.crossing_report_code.specs.Parts.{RanInto, refused_report, report_on}

-- the promise of the report
abbrev pub Reported : Shape → List ℤ → (order table : List ℕ) (work : List ℤ) → CrossingValues → List ℕ → List ℤ → Type 0
Reported s cells order table work r after free =
    let told = crossing_call s cells order table (length work) in
    (r ≡ told) × ((run_values r.run ≡ run_values told.run) × ((after ≡ crossing_table s cells order table (length work)) × WorkAfter (crossing_run_cause s cells order table (length work)) work free))

-- the values come with the answer
with_values : {Rest : Type 0} (r told : CrossingValues) → r ≡ told → Rest → (r ≡ told) × ((run_values r.run ≡ run_values told.run) × Rest)
with_values r told e h = (e, (ap (λ (c : CrossingValues). run_values c.run) e, h))

-- a refusal by the checks 1 2 17 3 4 15 16
pub report-refused : (s : Shape) (cells : List ℤ) (order table : List ℕ) (work : List ℤ) (n : ℕ) → n ≡ crossing_cause s cells → (n ≡ 0 → ⊥) → (r : CrossingValues) → r ≡ refused_report n → Reported s cells order table work r table work
unfolding crossing_call crossing_table crossing_run_cause
report-refused s cells order table work zero e h r q = absurd (h refl)
report-refused s cells order table work (suc n) e h r q = rw (← e) (with_values r (refused_report (suc n)) q (refl, record { long = refl; kept = λ x. refl }))

-- a run
pub report-made : (s : Shape) (cells : List ℤ) (order table : List ℕ) (work : List ℤ) → crossing_cause s cells ≡ 0 → (run : Run) → run ≡ run_call none s cells order table (length work)
    → (r : CrossingValues) → r ≡ report_on s cells run → (after : List ℕ) → after ≡ run_table none s cells order table (length work)
    → (free : List ℤ) → WorkAfter (run_cause none s cells order table (length work)) work free → Reported s cells order table work r after free
unfolding crossing_call crossing_run_cause run_call
report-made s cells order table work passed run e r q after f free w =
    with_values r (crossing_call s cells order table (length work)) (q ∙ ap (report_on s cells) e ∙ go (run_cause none s cells order table (length work)) refl) (f ∙ sym (crossing-table s cells order table (length work) passed), subst (λ (c : ℕ). WorkAfter c work free) (sym (crossing-cause s cells order table (length work) passed)) w)
  where
    go : (c : ℕ) → run_cause none s cells order table (length work) ≡ c → report_on s cells (run_call none s cells order table (length work)) ≡ crossing_call s cells order table (length work)
    go zero z = rw (passed, z)
    go (suc c) z = rw (passed, z)

pub ran-into : (s : Shape) (cells : List ℤ) (order lent : List ℕ) (work : ℕ) (run : Run) (table : List ℕ) → Typed s → crossing_cause s cells ≡ 0
    → run ≡ run_call none s cells order lent work → table ≡ run_table none s cells order lent work → RanInto s cells run table
ran-into s cells order lent work run table t p e f =
    record { sound = cause-sound s cells t p; passed = p; order = order; lent = lent; work = work; answer = e; filled = f }

-- ---- a run that was refused
pub refused-on : (s : Shape) (cells : List ℤ) (run : Run) (n : ℕ) → run ≡ Err n → (r : CrossingValues) → r ≡ refused_report n → r ≡ report_on s cells run
refused-on s cells run n e r q = q ∙ rw e

-- ---- a run that succeeded
abbrev is-done : Run → Bool
is-done (Err cause) = false
is-done (Ok done) = true

module _ (s : Shape) (cells : List ℤ) (run : Run) (table : List ℕ) (h : RanInto s cells run table) (rows probes : ℕ) (area ground : Total) (e : run ≡ ran rows probes area ground) where
  accepted : (c : ℕ) → run_cause none s cells h.order h.lent h.work ≡ c → run_cause none s cells h.order h.lent h.work ≡ 0
  unfolding run_call
  accepted zero z = z
  accepted (suc c) z = clash refl (ap is-done (sym e ∙ h.answer) ∙ rw z)

  -- its table has the rows of the join
  done-read : rows_in s.k rows table ≡ table_of (sizes_of s) (grown s cells)
  done-read =
      let z = accepted (run_cause none s cells h.order h.lent h.work) refl in
      let q = run-passed s cells h.order h.lent h.work z in
      let r = run_holds s cells h.order h.lent h.work h.sound q.0 q.1 in
      let c : rows ≡ length (overlay s cells).table = ap (λ (v : Run). (run_values v).rows) (sym e ∙ (h.answer ∙ r.done z)) in
      rw (h.filled, c) (r.rows z)

  -- ... of as many layers as there are sizes
  many : length (sizes_of s) ≡ s.k
  many = length-take-le s.k s.sizes (framed s cells h.sound).0

  pub done-rows : TableRows (sizes_of s) (length (sizes_of s)) (grown s cells) table rows
  done-rows =
      let t = table-rows s cells table rows h.sound done-read in
      record { inside = omega arith; framed = rw (take-length (sizes_of s)) t.framed; all = rw (take-length (sizes_of s), many) t.all }

  pub done-three : 3 ≤ length (sizes_of s)
  done-three = omega (arith, many, cause-three s cells h.passed)

  pub done-report : (counts : List ℕ) → counts ≡ class_counts (layers s cells) (rows_in (length (sizes_of s)) rows table)
      → record { run = ran rows probes area ground; counts = counts } ≡ report_on s cells run
  done-report counts q = rw (e, q, many, done-read)
