-- `runner::timed_run`: a refusal by the checks of the plan and its windows, or the run.
use borrow.Author.Rules.{rules}
use mathlib.Core.Bool.{true}
use mathlib.Core.Path.{refl}
use Rattle.plan.specs.Plan.{Typed}
use Rattle.plan.proofs.Causes.{number-above, passed}
use Rattle.pager.proofs.Calls.{checked-hours, hours-sound}
use Rattle.runner.proofs.Calls.{run_refused, timed-run}
use Rattle.runner.proofs.timed_run.Goals as goal

pub returns-in_err-check_hours : goal.returns-in_err-check_hours
returns-in_err-check_hours c =
    let k = timed-run c.args.shape c.args.cells.now c.args.hours.now c.args.order.now c.args.table.now c.args.work.now _ _ _
    (run_refused true c.args.shape c.args.cells.now c.args.hours.now c.args.order.now c.args.table.now c.args.work.now _ (checked-hours _ _ _ _ _ c.in_err-check_hours.ensures (number-above _)) (number-above _)) in
    let p = passed _ _ c.from_residual.ensures.1 in
    record { answer = rw p k.0; values = rw p k.1.0; table = k.1.1.0; work = k.1.1.1 }

pub run_on-requires : goal.run_on-requires
run_on-requires c =
    let typed : Typed c.args.shape = record { sizes = search rules; margins = search rules } in
    hours-sound _ _ _ c.args.order.now typed _ c.in_ok-check_hours.ensures refl

pub returns : goal.returns
returns c =
    record {
      answer = (timed-run c.args.shape c.args.cells.now c.args.hours.now c.args.order.now c.args.table.now c.args.work.now _ _ _ c.run_on.ensures).0;
      values = (timed-run c.args.shape c.args.cells.now c.args.hours.now c.args.order.now c.args.table.now c.args.work.now _ _ _ c.run_on.ensures).1.0;
      table = (timed-run c.args.shape c.args.cells.now c.args.hours.now c.args.order.now c.args.table.now c.args.work.now _ _ _ c.run_on.ensures).1.1.0;
      work = (timed-run c.args.shape c.args.cells.now c.args.hours.now c.args.order.now c.args.table.now c.args.work.now _ _ _ c.run_on.ensures).1.1.1;
    }
