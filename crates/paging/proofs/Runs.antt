-- The whole run succeeds exactly where the table fits, and hands out all of it.
use mathlib.Core.Path.{◌≡◌, refl, ap, ◌∙◌, subst}
use mathlib.Core.List.{List}
use mathlib.Core.Option.{Option, none}
use mathlib.Core.Bool.{Bool, true, false}
use Prim.Native.Nat.{ℕ, zero, suc, ◌*◌, ◌≤◌}
use native.Mathlib.Omega.{arith}
use lib.IntN.{ℤ}
use lib.Dec.{leb}
use lib.ListN.{length, drop}
use borrow.Author.Tests.{leb-true, le-leb}
use Rattle.plan.specs.declared.Shape.{Shape}
use Rattle.plan.specs.Causes.{unless, ◌or_else◌}
use Rattle.plan.specs.Plan.{layers, Sound}
use Rattle.plan.proofs.Plan.{or-else-zero, unless-zero}
use Rattle.plan.proofs.Theorems.{plans}
use Rattle.sweep.specs.Sweep.{order_cause}
use Rattle.windows.specs.HoursCall.{hours_cause}
use Rattle.paging.specs.Answers.{Run}
use Rattle.paging.specs.Overlays.{Overlay, overlay, overlay_of}
use Rattle.paging.specs.Pages.{room}
use Rattle.paging.specs.Calls.{run_cause, run_call, run_table}
use Rattle.paging.specs.Inner.{cause_before, run_cause_on, run_call_on, run_table_on}
use Rattle.rows.specs.Tables.{rows_in}
use Rattle.paging.specs.Theorems.{RunHolds}
use Rattle.paging.proofs.Overlays.{Lawful, laws-of, sizes-same}
use Rattle.rows.proofs.Tables.{rows-filled, fill-long, fill-kept}

-- ---- a run on an overlay of a plan
module _ (s : Shape) (cells : List ℤ) {S : Type 0} (o : Overlay S) (l : Lawful o) (k : length o.sizes ≡ s.k) (first : ℕ) (table : List ℕ) (work : ℕ) (passed : first ≡ 0) (enough : 2 * length o.table ≤ work) where
  abbrev its : ℕ
  its = run_cause_on o first table work

  abbrev answer : Run
  answer = run_call_on o its (layers s cells)

  abbrev after : List ℕ
  after = run_table_on o its table

  -- only the table's room may refuse it
  run-cause : its ≡ unless (leb (length o.table) (room o table)) 7
  run-cause = rw (passed, le-leb (2 * length o.table) work enough) (go (leb (length o.table) (room o table)))
    where
      go : (t : Bool) → ◌≡◌ {A = ℕ} (unless t 7 or_else 0) (unless t 7)
      go true = refl
      go false = refl

  -- k is the number of sizes
  of-k : (P : ℕ → Type 0) → P (length o.sizes) → P s.k
  of-k P h = subst P k h

  -- demand 3, of one run
  ran-holds : RunHolds s cells o table its answer after
  ran-holds = record {
    succeeds = rw run-cause (λ e. leb-true n m (unless-zero (leb n m) 6 e), λ h. rw (le-leb n m h));
    rows = λ e. of-k (λ k. rows_in k (length o.table) after ≡ o.table) (rw e (rows-filled (length o.sizes) table l.long));
    done = λ e. rw e;
    long = go (its) refl;
    kept = λ e. of-k (λ k. drop (k * n) after ≡ drop (k * n) table) (rw e (fill-kept (length o.sizes) table l.long));
  }
    where
      n : ℕ
      n = length o.table

      m : ℕ
      m = room o table

      go : (c : ℕ) → its ≡ c → length after ≡ length table
      go zero e = let h = leb-true n m (unless-zero (leb n m) 6 (rw run-cause at e)) in rw e (fill-long (length o.sizes) table l.long (omega (arith, h)))
      go (suc c) e = rw e

-- ---- a run of a plan, timed or not
-- demand 3, of one run
pub runs-hold : (windows : Option (List ℕ)) (s : Shape) (cells : List ℤ) (order table : List ℕ) (work : ℕ) → Sound s cells → cause_before windows s cells order ≡ 0 → 2 * length (overlay_of windows s cells).table ≤ work
    → RunHolds s cells (overlay_of windows s cells) table (run_cause windows s cells order table work) (run_call windows s cells order table work) (run_table windows s cells order table work)
unfolding run_cause run_call run_table
runs-hold windows s cells order table work sound passed enough =
    let o = overlay_of windows s cells in
    ran-holds s cells o (laws-of windows s cells sound) (ap length (sizes-same windows s cells) ∙ (plans.frames s cells sound).2) (cause_before windows s cells order) table work passed enough

pub run_holds : (s : Shape) (cells : List ℤ) (order table : List ℕ) (work : ℕ) → Sound s cells → order_cause s cells order ≡ 0 → 2 * length (overlay s cells).table ≤ work
    → RunHolds s cells (overlay s cells) table (run_cause none s cells order table work) (run_call none s cells order table work) (run_table none s cells order table work)
unfolding order_cause hours_cause
run_holds s cells order table work sound passed enough = runs-hold none s cells order table work sound passed enough

-- a run that is not refused has its order, and cells enough to work with
pub run-passed : (s : Shape) (cells : List ℤ) (order table : List ℕ) (work : ℕ) → run_cause none s cells order table work ≡ 0 → (order_cause s cells order ≡ 0) × (2 * length (overlay s cells).table ≤ work)
unfolding run_cause order_cause hours_cause
run-passed s cells order table work e =
    let o = overlay s cells in
    let q = or-else-zero (order_cause s cells order or_else unless (leb (length o.table) (room o table)) 7) _ e in
    ((or-else-zero (order_cause s cells order) _ q.0).0, leb-true (2 * length o.table) work (unless-zero (leb (2 * length o.table) work) 18 q.1))
