use native.Mathlib.Omega.{arith}
use Rattle.pens.proofs.Pens.{due-all}
use Rattle.text.proofs.Rects.{rects-room, rects-more, rects-end}
use Rattle.writer.proofs.put.put_rects.Goals as goal

pub loop-p-init : goal.loop-p-init
loop-p-init c = (omega arith, due-all _ _ c.requires.1)

pub rect_at-requires : goal.rect_at-requires
rect_at-requires c = omega (arith, c.requires.0)

pub put_rect_line-requires : goal.put_rect_line-requires
put_rect_line-requires c = rw c.rect_at.ensures (rects-room _ _ _ c.loop-p.p _ c.requires.0 c.loop-p-test.true c.loop-p.invariant.1)

pub loop-p-preserved : goal.loop-p-preserved
loop-p-preserved c = (omega arith, rects-more _ _ _ c.loop-p.p _ c.requires.0 c.loop-p-test.true c.loop-p.invariant.1 _ (rw c.rect_at.ensures at c.put_rect_line.ensures))

pub returns : goal.returns
returns c = rects-end _ _ _ c.loop-p.p (omega (arith, c.requires.0)) c.loop-p.invariant.1
