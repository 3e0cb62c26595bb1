-- `pager::first_of`: a refusal by the checks of the plan, or the cursor over its cells as drawn or grown.
use borrow.Author.Rules.{rules}
use mathlib.Core.Path.{sym}
use Rattle.plan.specs.Plan.{Sound}
use Rattle.plan.proofs.Causes.{number-above, passed}
use Rattle.plan.proofs.Growing.{drawn-framed}
use Rattle.plan_code.proofs.Drawn.{drawn}
use Rattle.sweep.proofs.Orders.{checked-plan}
use Rattle.pager.proofs.Calls.{first-refused}
use Rattle.pager.proofs.first_of.Goals as goal

pub returns-in_err-check_plan : goal.returns-in_err-check_plan
returns-in_err-check_plan c =
    rw (passed _ _ c.from_residual.ensures.1)
    (first-refused c.args.shape c.args.cells.now c.args.order.now _ (checked-plan _ _ _ _ c.in_err-check_plan.ensures (number-above _)) (number-above _))

pub first_over-requires : goal.first_over-requires
first_over-requires c =
    let sound : Sound c.args.shape c.args.cells.now = record { typed = record { sizes = search rules; margins = search rules }; passed = sym c.in_ok-check_plan.ensures } in
    drawn-framed c.args.shape c.args.cells.now sound

pub returns-then-is_drawn : goal.returns-then-is_drawn
returns-then-is_drawn c =
    let sound : Sound c.args.shape c.args.cells.now = record { typed = record { sizes = search rules; margins = search rules }; passed = sym c.in_ok-check_plan.ensures } in
    c.first_over.ensures c.args.cells.now sound (drawn _ _ _ sound c.is_drawn.ensures c.if-is_drawn.true).is

pub first_over-requires-2 : goal.first_over-requires-2
first_over-requires-2 c = c.grown_cells-grown.ensures.framed

pub returns : goal.returns
returns c =
    let sound : Sound c.args.shape c.args.cells.now = record { typed = record { sizes = search rules; margins = search rules }; passed = sym c.in_ok-check_plan.ensures } in
    c.first_over-2.ensures c.args.cells.now sound c.grown_cells-grown.ensures.is
