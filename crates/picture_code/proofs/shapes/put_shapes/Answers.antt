use native.Mathlib.Omega.{arith}
use Rattle.picture.proofs.Shapes.{none-drawn, next-drawable, next-shape-room, next_drawn, all-drawn}
use borrow.Author.Rules.{rules}
use Rattle.picture_code.proofs.shapes.put_shapes.Goals as goal

pub loop-p-init : goal.loop-p-init
loop-p-init c = none-drawn _ _ _ _ _ _ c.requires.room

pub rect_at-requires : goal.rect_at-requires
rect_at-requires c = omega (arith, c.requires.unit_bound.1.reach.whole, c.loop-p-test.true)

pub put_shape-requires : goal.put_shape-requires
put_shape-requires c =
    let t = c.loop-p-test.true in
    let e = c.rect_at.ensures in
    record {
      unit_bound = (c.requires.unit_bound.0, next-drawable _ _ _ _ _ _ c.loop-p.pen c.loop-p.p c.loop-p.invariant t _ e c.requires.unit_bound.1, omega (arith, c.requires.unit_bound.1.short, t));
      room = next-shape-room _ _ _ _ _ _ c.loop-p.pen c.loop-p.p c.loop-p.invariant t _ e;
    }

pub loop-p-preserved : goal.loop-p-preserved
loop-p-preserved c = search (rules, next_drawn)

pub returns : goal.returns
returns c = search (rules, all-drawn)
