-- `capi::overlay_plan_cause`.
use mathlib.Core.Path.{◌∙◌}
use Rattle.capi.proofs.overlay_plan_cause.Goals as goal

pub returns : goal.returns
returns c = c.number_of.ensures ∙ c.check_plan.ensures
