-- `capi::overlay_order_cause`.
use mathlib.Core.Path.{◌∙◌}
use Rattle.capi.proofs.overlay_order_cause.Goals as goal

pub returns : goal.returns
returns c = c.number_of.ensures ∙ c.check_order.ensures
