-- `plan_code::checks::check_plan`: a case for each check, with what the checks before it found.
use Rattle.std.proofs.Common.{◌≡◌, ℕ, ◌*◌, true, false, length, sym, ap, ◌∙◌}
use Rattle.lists.specs.Lists.{sum}
use Rattle.plan.specs.Plan.{shape_cause}
use Rattle.plan.proofs.Plan.{plan-shape, plan-cells, plan-range}
use Rattle.plan.proofs.Causes.{passed-same, number-above}
use Rattle.plan_code.proofs.checks.check_plan.Goals as goal

pub returns-in_err-check_shape : goal.returns-in_err-check_shape
returns-in_err-check_shape c =
    passed-same _ _ c.from_residual.ensures.1 _ (plan-shape _ _ _ c.in_err-check_shape.ensures (number-above _))

pub returns-then-cells-count_of : goal.returns-then-cells-count_of
returns-then-cells-count_of c =
    plan-cells _ _ (sym c.in_ok-check_shape.ensures) (λ e. c.if-cells-count_of.true (e ∙ ap (λ (m : ℕ). 4 * m) (sym c.count_of.ensures.0)))

pub returns-then-not-all_ranged : goal.returns-then-not-all_ranged
returns-then-not-all_ranged c =
    let whole : length c.args.cells.now ≡ 4 * sum c.args.shape.sizes = c.if-cells-count_of.false ∙ ap (λ (m : ℕ). 4 * m) c.count_of.ensures.0 in
    plan-range _ _ (sym c.in_ok-check_shape.ensures) whole false (sym c.if-not-all_ranged.true ∙ c.all_ranged.ensures)

pub returns : goal.returns
returns c =
    let whole : length c.args.cells.now ≡ 4 * sum c.args.shape.sizes = c.if-cells-count_of.false ∙ ap (λ (m : ℕ). 4 * m) c.count_of.ensures.0 in
    plan-range _ _ (sym c.in_ok-check_shape.ensures) whole true (sym c.if-not-all_ranged.false ∙ c.all_ranged.ensures)
