-- `windows_code::check_hours`: a case for each check, with what the checks before it found.
use mathlib.Core.Path.{sym, ◌∙◌}
use mathlib.Core.Bool.{true, false}
use Rattle.plan.proofs.Causes.{number-above, passed-same}
use Rattle.windows.proofs.Windows.{hours-first, hours-second}
use Rattle.windows_code.proofs.check_hours.Goals as goal

pub returns-in_err-check_plan : goal.returns-in_err-check_plan
returns-in_err-check_plan c = passed-same _ _ c.from_residual.ensures.1 _ (hours-first _ _ _ _ c.in_err-check_plan.ensures (number-above _))

pub are_hours-requires : goal.are_hours-requires
are_hours-requires c = c.count_of.ensures.1

pub returns-then-not-are_hours : goal.returns-then-not-are_hours
returns-then-not-are_hours c = hours-second _ _ _ (sym c.in_ok-check_plan.ensures) _ c.count_of.ensures.0 false (sym c.if-not-are_hours.true ∙ c.are_hours.ensures)

pub returns : goal.returns
returns c = hours-second _ _ _ (sym c.in_ok-check_plan.ensures) _ c.count_of.ensures.0 true (sym c.if-not-are_hours.false ∙ c.are_hours.ensures)
