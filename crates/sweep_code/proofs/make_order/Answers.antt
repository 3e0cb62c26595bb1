-- `sweep_code::make_order`: a case for each answer.
use borrow.Author.Rules.{rules}
use mathlib.Core.Path.{sym, ◌∙◌}
use Rattle.plan.specs.Plan.{Typed, Sound}
use Rattle.plan.proofs.Causes.{number-above, passed}
use Rattle.sweep.proofs.Orders.{order-refused, order-misfit, order-made}
use Rattle.sweep_code.proofs.make_order.Goals as goal

pub returns-in_err-check_plan : goal.returns-in_err-check_plan
returns-in_err-check_plan c =
    let k = order-refused c.args.shape c.args.cells.now c.args.order.now _ c.in_err-check_plan.ensures (number-above _) in
    let p = passed _ _ c.from_residual.ensures.1 in
    record { answer = rw p k.0; number = rw p k.1.0; buffer = k.1.1 }

pub returns-then-order-cells : goal.returns-then-order-cells
returns-then-order-cells c =
    let typed : Typed c.args.shape = record { sizes = search rules; margins = search rules } in
    let sound : Sound c.args.shape c.args.cells.now = record { typed = typed; passed = sym c.in_ok-check_plan.ensures } in
    record {
      answer = (order-misfit c.args.shape c.args.cells.now c.args.order.now sound c.if-order-cells.true).0;
      number = (order-misfit c.args.shape c.args.cells.now c.args.order.now sound c.if-order-cells.true).1.0;
      buffer = (order-misfit c.args.shape c.args.cells.now c.args.order.now sound c.if-order-cells.true).1.1;
    }

pub fill_order-requires : goal.fill_order-requires
fill_order-requires c =
    let typed : Typed c.args.shape = record { sizes = search rules; margins = search rules } in
    let sound : Sound c.args.shape c.args.cells.now = record { typed = typed; passed = sym c.in_ok-check_plan.ensures } in
    (sound, c.if-order-cells.false)

pub returns : goal.returns
returns c =
    let typed : Typed c.args.shape = record { sizes = search rules; margins = search rules } in
    let sound : Sound c.args.shape c.args.cells.now = record { typed = typed; passed = sym c.in_ok-check_plan.ensures } in
    record {
      answer = (order-made c.args.shape c.args.cells.now c.args.order.now sound _ c.if-order-cells.false c.fill_order.ensures).0;
      number = (order-made c.args.shape c.args.cells.now c.args.order.now sound _ c.if-order-cells.false c.fill_order.ensures).1.0;
      buffer = (order-made c.args.shape c.args.cells.now c.args.order.now sound _ c.if-order-cells.false c.fill_order.ensures).1.1;
    }
