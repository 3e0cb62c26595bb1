-- `sweep_code::check_over`.
use mathlib.Core.Path.{sym, ap, ◌∙◌}
use mathlib.Core.Bool.{Bool}
use Rattle.plan.specs.Causes.{unless}
use Rattle.sweep_code.proofs.check_over.Goals as goal

pub returns-then-not-is_order : goal.returns-then-not-is_order
returns-then-not-is_order c = ap (λ (t : Bool). unless t 5) (sym c.if-not-is_order.true ∙ c.is_order.ensures)

pub returns : goal.returns
returns c = ap (λ (t : Bool). unless t 5) (sym c.if-not-is_order.false ∙ c.is_order.ensures)
