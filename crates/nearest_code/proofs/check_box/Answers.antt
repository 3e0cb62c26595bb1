-- `nearest_code::check_box`: the plan's causes, and then the box's.
use mathlib.Core.Path.{sym, ◌∙◌}
use mathlib.Core.Bool.{true, false}
use Rattle.plan.proofs.Causes.{number-above, passed-same}
use Rattle.nearest.proofs.Answers.{cause-plan, cause-box}
use Rattle.nearest_code.proofs.check_box.Goals as goal

pub returns-in_err-check_plan : goal.returns-in_err-check_plan
returns-in_err-check_plan c = passed-same _ _ c.from_residual.ensures.1 _ (cause-plan _ _ _ _ c.in_err-check_plan.ensures (number-above _))

pub returns-then-not-in_range : goal.returns-then-not-in_range
returns-then-not-in_range c = cause-box _ _ _ (sym c.in_ok-check_plan.ensures) false (sym c.if-not-in_range.true ∙ c.in_range.ensures)

pub returns : goal.returns
returns c = cause-box _ _ _ (sym c.in_ok-check_plan.ensures) true (sym c.if-not-in_range.false ∙ c.in_range.ensures)
