-- `crossing_report_code::crossing_report`: a refusal by the checks 1 2 17 3 4 15 16 or by the whole run, or the rows of the table by their class.
use mathlib.Core.Path.{refl, sym}
use Rattle.plan.specs.Plan.{Typed, grown}
use Rattle.plan.proofs.Causes.{number-above, passed}
use Rattle.crossings.proofs.Answers.{cause-sound}
use Rattle.crossing_report_code.proofs.Reports.{report-refused, report-made, ran-into, refused-on, done-rows, done-three, done-report}
use borrow.Author.Rules.{rules}
use Rattle.crossing_report_code.proofs.crossing_report.Goals as goal

pub returns-in_err-check_segments : goal.returns-in_err-check_segments
returns-in_err-check_segments c =
    let k = report-refused c.args.shape c.args.cells.now c.args.order.now c.args.table.now c.args.work.now _ c.in_err-check_segments.ensures (number-above _) _ refl in
    let p = passed _ _ c.from_residual.ensures.1 in
    record { answer = rw p k.0; values = rw p k.1.0; table = k.1.1.0; work = k.1.1.1 }

pub returns-in_err-run : goal.returns-in_err-run
returns-in_err-run c =
    let r = c.in_err-run.ensures in
    let k = report-made c.args.shape c.args.cells.now c.args.order.now c.args.table.now c.args.work.now (sym c.in_ok-check_segments.ensures) _ r.answer _ (refused-on c.args.shape c.args.cells.now _ _ refl _ refl) _ r.table _ r.work in
    let p = passed _ _ c.from_residual-in_err-run.ensures.1 in
    record { answer = rw p k.0; values = rw p k.1.0; table = k.1.1.0; work = k.1.1.1 }

pub of-requires : goal.of-requires
of-requires c = cause-sound _ _ (record { sizes = search rules; margins = search rules }) (sym c.in_ok-check_segments.ensures)

pub count_classes-counts-requires : goal.count_classes-counts-requires
unfolding grown
count_classes-counts-requires c =
    let typed : Typed c.args.shape = record { sizes = search rules; margins = search rules } in
    let r = c.in_ok-run.ensures in
    let d = c.of.ensures in
    let ran = ran-into c.args.shape c.args.cells.now c.args.order.now c.args.table.now _ _ _ typed (sym c.in_ok-check_segments.ensures) r.answer r.table in
    record {
      table_rows = rw (d.0, d.1, d.2) (done-rows c.args.shape c.args.cells.now _ _ ran _ _ _ _ refl);
      three = rw d.0 (done-three c.args.shape c.args.cells.now _ _ ran _ _ _ _ refl);
    }

pub returns : goal.returns
unfolding grown
returns c =
    let typed : Typed c.args.shape = record { sizes = search rules; margins = search rules } in
    let r = c.in_ok-run.ensures in
    let d = c.of.ensures in
    let ran = ran-into c.args.shape c.args.cells.now c.args.order.now c.args.table.now _ _ _ typed (sym c.in_ok-check_segments.ensures) r.answer r.table in
    let told = done-report c.args.shape c.args.cells.now _ _ ran _ _ _ _ refl _ (rw (d.0, d.1, d.2) at c.count_classes-counts.ensures) in
    let k = report-made c.args.shape c.args.cells.now c.args.order.now c.args.table.now c.args.work.now (sym c.in_ok-check_segments.ensures) _ r.answer _ told _ r.table _ r.work in
    record { answer = k.0; values = k.1.0; table = k.1.1.0; work = k.1.1.1 }
