use native.Mathlib.Omega.{arith}
use mathlib.Core.Path.{refl, sym, ap, ◌∙◌}
use Rattle.lists.proofs.Tests.{below_more}
use Rattle.windows.specs.Windows.{window_at, is_window}
use Rattle.windows.proofs.Windows.{hours-short, hours-not, hours-end}
use Rattle.windows_code.proofs.are_hours.Goals as goal

pub returns-then-hours-n : goal.returns-then-hours-n
returns-then-hours-n c = hours-short _ _ c.if-hours-n.true

pub loop-i-init : goal.loop-i-init
loop-i-init c = (omega arith, refl)

pub returns-then-not-is_window : goal.returns-then-not-is_window
returns-then-not-is_window c = hours-not _ _ c.if-hours-n.false c.loop-i.i c.loop-i-test.true (ap is_window (sym c.window_at.ensures) ∙ (sym c.is_window.ensures ∙ c.if-not-is_window.true))

pub loop-i-preserved : goal.loop-i-preserved
loop-i-preserved c = (omega arith, below_more (λ j. is_window (window_at c.args.hours.now j)) _ c.loop-i.invariant.1 (ap is_window (sym c.window_at.ensures) ∙ (sym c.is_window.ensures ∙ c.if-not-is_window.false)))

pub returns : goal.returns
returns c = hours-end _ _ c.if-hours-n.false _ c.loop-i.invariant.1 c.loop-i.invariant.0 c.loop-i-test.false
