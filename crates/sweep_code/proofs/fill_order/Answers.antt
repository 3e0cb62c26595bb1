-- `sweep_code::fill_order`: the plan as it is drawn, or grown.
use mathlib.Core.Path.{sym, ap, ◌∙◌}
use Prim.Native.Nat.{ℕ, ◌/◌}
use native.Mathlib.Omega.{arith}
use Rattle.plan.proofs.Plan.{few}
use Rattle.plan.proofs.Growing.{drawn-framed}
use Rattle.plan_code.proofs.Drawn.{drawn}
use Rattle.sweep.specs.Sweep.{sweep_order}
use Rattle.sweep_code.proofs.fill_order.Goals as goal

pub fill-requires : goal.fill-requires
fill-requires c = (c.requires.1, omega (arith, c.requires.1, few c.args.shape _ c.requires.0))

pub returns-then-is_drawn : goal.returns-then-is_drawn
returns-then-is_drawn c = c.fill.ensures ∙ ap sweep_order (drawn c.args.shape _ _ c.requires.0 c.is_drawn.ensures c.if-is_drawn.true).is

pub fill-requires-2 : goal.fill-requires-2
fill-requires-2 c =
    let n = c.grown_cells-grown.ensures.framed.1.whole ∙ sym (drawn-framed c.args.shape _ c.requires.0).1.whole in
    (c.requires.1 ∙ sym (ap (λ (n : ℕ). n / 4) n), omega (arith, c.requires.1, few c.args.shape _ c.requires.0))

pub returns : goal.returns
returns c = c.fill-2.ensures ∙ ap sweep_order c.grown_cells-grown.ensures.is
