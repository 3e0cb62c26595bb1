-- What refuses a report, and what is printed else.
use mathlib.Core.Path.{◌≡◌, refl, sym, ap, ◌∙◌}
use mathlib.Core.Bool.{Bool, true, false}
use mathlib.Core.Logic.{◌⊎◌, inl, inr}
use mathlib.Core.List.{List}
use mathlib.Core.Option.{none}
use Prim.Native.Nat.{ℕ, suc, ◌*◌, ◌/◌, ◌≤◌, ◌<◌}
use native.Mathlib.Nat.{div-le_self, le_trans, mul-le-mul_left, mul-le-mul_right, mul-div-le}
use native.Mathlib.Omega.{arith}
use lib.Dec.{leb}
use lib.IntN.{ℤ}
use lib.ListN.{length}
use lib.Seq.{take-append_seam, drop-append_seam}
use borrow.Author.Tests.{le-leb, lt-leb, leb-true, leb-false}
use Rattle.lists.proofs.Tests.{total}
use Rattle.plan.specs.declared.Shape.{Shape}
use Rattle.plan.specs.Causes.{unless, ◌or_else◌, Check, fails, passes, Passed}
use Rattle.plan.specs.Limits.{most_cells}
use Rattle.plan.specs.Plan.{Sound, grown}
use Rattle.sweep.specs.Sweep.{sweep_order}
use Rattle.join.specs.Table.{plan_table}
use Rattle.paging.specs.Pages.{room}
use Rattle.paging.specs.Calls.{run_cause}
use Rattle.paging.proofs.Causes.{first_passes}
use Rattle.plan.proofs.Plan.{checked, unless-zero}
use Rattle.plan.proofs.Theorems.{plans}
use Rattle.text.specs.Plans.{text_of}
use Rattle.text.specs.Reader.{read_cause, text_shape, text_cells}
use Rattle.text.specs.Theorems.{Formed, PlanText}
use Rattle.text.proofs.Text.{measured}
use Rattle.text.proofs.Theorems.{shape-back, cells-back, read-causes, exactly}
use Rattle.printing.specs.Lines.{refused_line}
use Rattle.reporting.specs.Report.{run_work_cells, empty_table, table_report, report_cause, report_of}
use Rattle.reporting.specs.Theorems.{TableFits, Reports}
use Rattle.reporting.proofs.Reports.{empty-long}
use Rattle.reporting.proofs.Texts.{never-longer}
use Rattle.paging.specs.Overlays.{overlay}

module _ (s : Shape) (cells : List ℤ) (sound : Sound s cells) where
  -- a table of 12,288 cells takes that many over k rows
  rooms : room (overlay s cells) empty_table ≡ 12288 / s.k
  rooms = rw ((plans.frames s cells sound).2, empty-long) (omega (arith, div-le_self 12288 s.k))

  -- two cells for each row that the table takes
  work-fits : length (plan_table s cells) ≤ 12288 / s.k → 2 * length (plan_table s cells) ≤ 12288
  work-fits h =
      let n = length (plan_table s cells) in
      le_trans (mul-le-mul_right n (checked s cells sound).low) (le_trans (mul-le-mul_left {m = n} {n = 12288 / s.k} s.k h) (mul-div-le 12288 s.k))

  -- its whole run has at most the cause 7
  run-cause : run_cause none s cells (sweep_order (grown s cells)) empty_table run_work_cells ≡ unless (leb (length (plan_table s cells)) (12288 / s.k)) 7
  unfolding run_cause
  run-cause = rw (first_passes s cells (sweep_order (grown s cells)) none sound.passed tt refl, rooms) (go (leb (length (plan_table s cells)) (12288 / s.k)) refl)
    where
      go : (b : Bool) → leb (length (plan_table s cells)) (12288 / s.k) ≡ b → (unless b 7 or_else unless (leb (2 * length (plan_table s cells)) 12288) 19) ≡ unless b 7
      go true e = rw (le-leb (2 * length (plan_table s cells)) 12288 (work-fits (leb-true (length (plan_table s cells)) (12288 / s.k) e)))
      go false e = refl

-- the text of a plan has at most the cause 7
plan-cause : (t : List ℕ) → length t ≤ 65536 → (p : PlanText t) → report_cause t ≡ unless (leb (length (plan_table p.shape p.plan)) (12288 / p.shape.k)) 7
unfolding report_cause
plan-cause t h p =
    let m = measured p.shape p.plan p.sound in
    let e : read_cause most_cells t ≡ 0 = (exactly most_cells t).1 (p, omega (arith, m.whole, m.few)) in
    let x : text_shape t ≡ p.shape = ap text_shape p.text ∙ shape-back p.shape p.plan p.sound in
    let y : text_cells t ≡ p.plan = ap text_cells p.text ∙ cells-back p.shape p.plan p.sound in
    rw (le-leb (length t) 65536 h, e, x, y) (run-cause p.shape p.plan p.sound)

module _ (t : List ℕ) where
  abbrev TableChecks : ℕ → Type 0
  TableChecks = Check 7 ((p : PlanText t) → TableFits p) Passed

  fitting : length t ≤ 65536 → (p : PlanText t) (b : Bool) → leb (length (plan_table p.shape p.plan)) (12288 / p.shape.k) ≡ b → TableChecks (report_cause t)
  fitting h p true e =
      let z : report_cause t ≡ 0 = plan-cause t h p ∙ rw e in
      passes (λ q. leb-true _ (12288 / q.shape.k) (unless-zero _ 6 (sym (plan-cause t h q) ∙ z))) z
  fitting h p false e = fails (plan-cause t h p ∙ rw e) (λ f. let l = leb-false _ (12288 / p.shape.k) e in omega (arith, f p))

  causes : Check 13 (length t ≤ 65536) (Check 9 (Formed t) (Check 10 (PlanText t) TableChecks)) (report_cause t)
  unfolding report_cause
  causes = size (total (length t) 65536)
    where
      refused : length t ≤ 65536 → (n : ℕ) → read_cause most_cells t ≡ suc n → report_cause t ≡ suc n
      refused h n e = rw (le-leb (length t) 65536 h, e)

      read : length t ≤ 65536 → Check 9 (Formed t) (Check 10 (PlanText t) (Check 11 ((p : PlanText t) → length p.plan ≤ most_cells) Passed)) (read_cause most_cells t)
          → Check 9 (Formed t) (Check 10 (PlanText t) TableChecks) (report_cause t)
      read h (fails e x) = fails (refused h 8 e) x
      read h (passes f (fails e x)) = passes f (fails (refused h 9 e) x)
      read h (passes f (passes p c)) = passes f (passes p (fitting h p (leb (length (plan_table p.shape p.plan)) (12288 / p.shape.k)) refl))

      size : (length t ≤ 65536) ⊎ (65536 < length t) → Check 13 (length t ≤ 65536) (Check 9 (Formed t) (Check 10 (PlanText t) TableChecks)) (report_cause t)
      size (inl h) = passes h (read h (read-causes most_cells t))
      size (inr h) = fails (rw (lt-leb (length t) 65536 h)) (λ l. omega arith)

refused : (t : List ℕ) (n : ℕ) → report_cause t ≡ suc n → report_of t ≡ refused_line (suc n)
unfolding report_of
refused t n e = rw e

printed : (s : Shape) (plan : List ℤ) → Sound s plan → report_cause (text_of s plan) ≡ 0 → report_of (text_of s plan) ≡ table_report s plan
unfolding report_of
printed s plan sound e = rw (e, shape-back s plan sound, cells-back s plan sound)

pub reports : Reports
reports =
    record {
      causes = causes;
      refused = refused;
      printed = printed;
      fits = never-longer;
      put = λ t out. (take-append_seam (report_of t) _, drop-append_seam (report_of t) _);
    }
