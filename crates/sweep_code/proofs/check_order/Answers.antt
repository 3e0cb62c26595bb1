-- `sweep_code::check_order`: the plan's causes, then the order's, of the plan as it is drawn or grown.
use borrow.Author.Rules.{rules}
use mathlib.Core.Path.{◌≡◌, refl, sym, ap, ◌∙◌}
use mathlib.Core.List.{List}
use Prim.Native.Nat.{ℕ}
use lib.IntN.{ℤ}
use Rattle.lists.specs.Lists.{same}
use Rattle.plan.specs.declared.Shape.{Shape}
use Rattle.plan.specs.Causes.{unless}
use Rattle.plan.specs.Plan.{Sound}
use Rattle.plan.proofs.Causes.{number-above, passed-same}
use Rattle.plan_code.specs.Copies.{GrownCells}
use Rattle.plan_code.proofs.Drawn.{drawn}
use Rattle.sweep.specs.Sweep.{sweep_order, order_cause}
use Rattle.sweep.proofs.Orders.{checked-plan, checked-order}
use Rattle.sweep_code.proofs.check_order.Goals as goal

-- the cause over the grown cells is the order's
over : (s : Shape) (cells here : List ℤ) (order : List ℕ) (r : ℕ) → Sound s cells → GrownCells s cells here → r ≡ unless (same order (sweep_order here)) 5 → r ≡ order_cause s cells order
over s cells here order r h g e = e ∙ (ap (λ (l : List ℤ). unless (same order (sweep_order l)) 5) g.is ∙ checked-order _ _ _ h.passed _ refl)

pub returns-in_err-check_plan : goal.returns-in_err-check_plan
returns-in_err-check_plan c =
    passed-same _ _ c.from_residual.ensures.1 _ (checked-plan _ _ _ _ c.in_err-check_plan.ensures (number-above _))

pub returns-then-is_drawn : goal.returns-then-is_drawn
returns-then-is_drawn c =
    let sound : Sound c.args.shape c.args.cells.now = record { typed = record { sizes = search rules; margins = search rules }; passed = sym c.in_ok-check_plan.ensures } in
    over _ _ _ _ _ sound (drawn _ _ _ sound c.is_drawn.ensures c.if-is_drawn.true) c.check_over.ensures

pub returns : goal.returns
returns c =
    let sound : Sound c.args.shape c.args.cells.now = record { typed = record { sizes = search rules; margins = search rules }; passed = sym c.in_ok-check_plan.ensures } in
    over _ _ _ _ _ sound c.grown_cells-grown.ensures c.check_over-2.ensures
