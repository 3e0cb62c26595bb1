use native.Mathlib.Omega.{arith}
use mathlib.Core.Path.{refl, sym, ap, ◌∙◌}
use borrow.Author.Tests.{not-false}
use Rattle.lists.proofs.Tests.{below_more, below-not, below_end}
use Rattle.geometry.specs.Rectangles.{in_range}
use Rattle.plan.specs.Plan.{rect_at}
use Rattle.plan_code.proofs.checks.all_ranged.Goals as goal

pub loop-i-init : goal.loop-i-init
loop-i-init c = (omega arith, refl)

pub returns-then-not-in_range : goal.returns-then-not-in_range
returns-then-not-in_range c = below-not (λ j. in_range (rect_at c.args.cells.now j)) _ c.loop-i.i c.loop-i-test.true (ap in_range (sym c.rect_at.ensures) ∙ (sym c.in_range.ensures ∙ c.if-not-in_range.true))

pub loop-i-preserved : goal.loop-i-preserved
loop-i-preserved c = (omega arith, below_more (λ j. in_range (rect_at c.args.cells.now j)) c.loop-i.i c.loop-i.invariant.1 (ap in_range (sym c.rect_at.ensures) ∙ (sym c.in_range.ensures ∙ c.if-not-in_range.false)))
