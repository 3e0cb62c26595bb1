-- `pager::timed_page`: a refusal by the checks of the plan and its windows, or the page.
use borrow.Author.Rules.{rules}
use mathlib.Core.Path.{refl}
use mathlib.Core.Bool.{true}
use Rattle.plan.specs.Plan.{Typed}
use Rattle.plan.proofs.Causes.{number-above}
use Rattle.pager.proofs.Calls.{page_refused, timed-page, checked-hours, hours-sound}
use Rattle.pager.proofs.timed_page.Goals as goal

pub returns-in-Err : goal.returns-in-Err
returns-in-Err c =
    let k = timed-page c.args.shape c.args.cells.now c.args.hours.now c.args.order.now c.args.ticket c.args.counter.now c.args.budget c.args.table.now _ _ _
    (page_refused true c.args.shape c.args.cells.now c.args.hours.now c.args.order.now c.args.ticket c.args.counter.now c.args.budget c.args.table.now _ (checked-hours _ _ _ _ _ c.in-Err.ensures (number-above _)) (number-above _) _ c.refused_page.ensures) in
    record { answer = k.0; number = k.1.0; counter = k.1.1.0; table = k.1.1.1 }

pub page_on-requires : goal.page_on-requires
page_on-requires c =
    let typed : Typed c.args.shape = record { sizes = search rules; margins = search rules } in
    hours-sound _ _ _ c.args.order.now typed _ (c.in-Ok.ensures) refl

pub returns-in-Ok : goal.returns-in-Ok
returns-in-Ok c =
    record {
      answer = (timed-page c.args.shape c.args.cells.now c.args.hours.now c.args.order.now c.args.ticket c.args.counter.now c.args.budget c.args.table.now _ _ _ c.page_on.ensures).0;
      number = (timed-page c.args.shape c.args.cells.now c.args.hours.now c.args.order.now c.args.ticket c.args.counter.now c.args.budget c.args.table.now _ _ _ c.page_on.ensures).1.0;
      counter = (timed-page c.args.shape c.args.cells.now c.args.hours.now c.args.order.now c.args.ticket c.args.counter.now c.args.budget c.args.table.now _ _ _ c.page_on.ensures).1.1.0;
      table = (timed-page c.args.shape c.args.cells.now c.args.hours.now c.args.order.now c.args.ticket c.args.counter.now c.args.budget c.args.table.now _ _ _ c.page_on.ensures).1.1.1;
    }
