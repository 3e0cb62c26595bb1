-- `runner::run_all`: a refusal by the checks of the plan, or the run.
use borrow.Author.Rules.{rules}
use mathlib.Core.Bool.{false}
use mathlib.Core.List.{[], ◌∷◌}
use mathlib.Core.Path.{sym}
use Rattle.plan.specs.Plan.{Typed}
use Rattle.plan.proofs.Causes.{number-above, passed}
use Rattle.sweep.proofs.Orders.{checked-plan}
use Rattle.pager.proofs.Calls.{no-hours}
use Rattle.runner.proofs.Calls.{run_refused, untimed-run}
use Rattle.runner.proofs.run_all.Goals as goal

pub returns-in_err-check_plan : goal.returns-in_err-check_plan
returns-in_err-check_plan c =
    let k = untimed-run c.args.shape c.args.cells.now [] c.args.order.now c.args.table.now c.args.work.now _ _ _
    (run_refused false c.args.shape c.args.cells.now [] c.args.order.now c.args.table.now c.args.work.now _ (checked-plan _ _ _ _ c.in_err-check_plan.ensures (number-above _)) (number-above _)) in
    let p = passed _ _ c.from_residual.ensures.1 in
    record { answer = rw p k.0; values = rw p k.1.0; table = k.1.1.0; work = k.1.1.1 }

pub run_on-requires : goal.run_on-requires
run_on-requires c =
    let typed : Typed c.args.shape = record { sizes = search rules; margins = search rules } in
    (record { typed = typed; passed = sym c.in_ok-check_plan.ensures }, no-hours c.args.shape _)

pub returns : goal.returns
returns c =
    record {
      answer = (untimed-run c.args.shape c.args.cells.now (0 ∷ []) c.args.order.now c.args.table.now c.args.work.now _ _ _ c.run_on.ensures).0;
      values = (untimed-run c.args.shape c.args.cells.now (0 ∷ []) c.args.order.now c.args.table.now c.args.work.now _ _ _ c.run_on.ensures).1.0;
      table = (untimed-run c.args.shape c.args.cells.now (0 ∷ []) c.args.order.now c.args.table.now c.args.work.now _ _ _ c.run_on.ensures).1.1.0;
      work = (untimed-run c.args.shape c.args.cells.now (0 ∷ []) c.args.order.now c.args.table.now c.args.work.now _ _ _ c.run_on.ensures).1.1.1;
    }
