use native.Mathlib.Omega.{arith}
use mathlib.Core.Path.{ap, ◌∙◌}
use Rattle.geometry.specs.Rectangles.{in_range, grown_by}
use Rattle.plan.proofs.Growing.{enlarged-none, enlarged-room, enlarged-more, enlarged-all}
use Rattle.plan_code.proofs.margins.grow_layer.Goals as goal

pub loop-p-init : goal.loop-p-init
loop-p-init c = enlarged-none _ _ _ _ _

pub rect_at-requires : goal.rect_at-requires
rect_at-requires c = omega (arith, c.requires.in_reach.0.whole)

pub grow-requires : goal.grow-requires
grow-requires c = (ap in_range c.rect_at.ensures ∙ c.requires.in_reach.0.ranged c.loop-p.p c.loop-p-test.true, c.requires.in_reach.1)

pub put_rect-to-requires : goal.put_rect-to-requires
put_rect-to-requires c = enlarged-room _ _ _ _ _ c.loop-p.run c.loop-p.to c.loop-p.p c.loop-p.invariant c.loop-p-test.true c.requires.size_in_bounds

pub loop-p-preserved : goal.loop-p-preserved
loop-p-preserved c =
    let a = c.args in
    enlarged-more _ _ _ _ _ c.loop-p.run c.loop-p.to c.loop-p.p c.loop-p.invariant _ _ _ c.loop-p-test.true
    (c.grow.ensures ∙ ap (grown_by a.margin) c.rect_at.ensures) c.put_rect-to.ensures

pub shape_of-run : goal.shape_of-run
shape_of-run c = c.loop-p.invariant.left.long

pub returns : goal.returns
returns c = enlarged-all _ _ _ _ _ c.loop-p.run c.loop-p.to c.loop-p.p c.loop-p.invariant c.loop-p-test.false
