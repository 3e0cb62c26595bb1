use native.Mathlib.Omega.{arith}
use mathlib.Core.Path.{refl, sym, ◌∙◌}
use borrow.Author.Tests.{not-false}
use Rattle.plan.proofs.Plan.{fitted-more, fitted-not, fitted-end}
use Rattle.plan_code.proofs.checks.all_fit.Goals as goal

pub loop-j-init : goal.loop-j-init
loop-j-init c = record { within = omega arith; same = refl }

pub returns-then-not-fits_at : goal.returns-then-not-fits_at
returns-then-not-fits_at c = fitted-not _ _ _ _ c.loop-j.invariant c.loop-j-test.true (sym c.fits_at.ensures ∙ c.if-not-fits_at.true)

pub loop-j-preserved : goal.loop-j-preserved
loop-j-preserved c = fitted-more _ _ _ _ c.loop-j.invariant c.loop-j-test.true (sym c.fits_at.ensures ∙ c.if-not-fits_at.false)
