-- `pager::fetch_page`: a refusal by the checks of the plan, or the page.
use borrow.Author.Rules.{rules}
use mathlib.Core.Bool.{false}
use mathlib.Core.List.{[], ◌∷◌}
use mathlib.Core.Path.{sym}
use Rattle.plan.specs.Plan.{Typed}
use Rattle.sweep.proofs.Orders.{checked-plan}
use Rattle.plan.proofs.Causes.{number-above}
use Rattle.pager.proofs.Calls.{no-hours, page_refused, untimed-page}
use Rattle.pager.proofs.fetch_page.Goals as goal

pub returns-in-Err : goal.returns-in-Err
returns-in-Err c =
    let k = untimed-page c.args.shape c.args.cells.now [] c.args.order.now c.args.ticket c.args.counter.now c.args.budget c.args.table.now _ _ _
    (page_refused false c.args.shape c.args.cells.now [] c.args.order.now c.args.ticket c.args.counter.now c.args.budget c.args.table.now _ (checked-plan _ _ _ _ c.in-Err.ensures (number-above _)) (number-above _) _ c.refused_page.ensures) in
    record { answer = k.0; number = k.1.0; counter = k.1.1.0; table = k.1.1.1 }

pub page_on-requires : goal.page_on-requires
page_on-requires c =
    let typed : Typed c.args.shape = record { sizes = search rules; margins = search rules } in
    (record { typed = typed; passed = sym c.in-Ok.ensures }, no-hours c.args.shape _)

pub returns-in-Ok : goal.returns-in-Ok
returns-in-Ok c =
    record {
      answer = (untimed-page c.args.shape c.args.cells.now (0 ∷ []) c.args.order.now c.args.ticket c.args.counter.now c.args.budget c.args.table.now _ _ _ c.page_on.ensures).0;
      number = (untimed-page c.args.shape c.args.cells.now (0 ∷ []) c.args.order.now c.args.ticket c.args.counter.now c.args.budget c.args.table.now _ _ _ c.page_on.ensures).1.0;
      counter = (untimed-page c.args.shape c.args.cells.now (0 ∷ []) c.args.order.now c.args.ticket c.args.counter.now c.args.budget c.args.table.now _ _ _ c.page_on.ensures).1.1.0;
      table = (untimed-page c.args.shape c.args.cells.now (0 ∷ []) c.args.order.now c.args.ticket c.args.counter.now c.args.budget c.args.table.now _ _ _ c.page_on.ensures).1.1.1;
    }
