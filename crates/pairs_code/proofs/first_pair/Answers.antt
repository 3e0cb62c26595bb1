use native.Mathlib.Omega.{arith}
use Rattle.rows.proofs.Layers.{sum-next, reached-next}
use Rattle.pairs.proofs.Scanning.{paired_none, paired-found, paired-more, paired-end}
use Rattle.pairs_code.proofs.first_pair.Goals as goal

pub loop-i-init : goal.loop-i-init
loop-i-init c = paired_none _ _ _

pub overflow_add-start : goal.overflow_add-start
overflow_add-start c = omega (arith, sum-next _ _ _ c.loop-i.invariant.reached c.loop-i-test.true, c.args.drawing.now.readable.whole)

pub apart_from-j-requires : goal.apart_from-j-requires
apart_from-j-requires c = record { row_value = c.requires; reached = reached-next _ _ _ c.loop-i.invariant.reached c.loop-i-test.true }

pub overflow_cast-lower : goal.overflow_cast-lower
overflow_cast-lower c = omega (arith, c.args.drawing.now.readable.framed.few, c.loop-i-test.true)

pub overflow_cast-higher : goal.overflow_cast-higher
overflow_cast-higher c = omega (arith, c.args.drawing.now.readable.framed.few, c.if-j-sizes.true)

pub overflow_add-higher : goal.overflow_add-higher
overflow_add-higher c = omega (arith, c.args.drawing.now.readable.framed.few, c.if-j-sizes.true)

pub returns-then-j-sizes : goal.returns-then-j-sizes
returns-then-j-sizes c = paired-found _ _ _ _ _ c.loop-i.invariant c.requires c.loop-i-test.true _ c.rect-r.ensures _ c.apart_from-j.ensures c.if-j-sizes.true

pub loop-i-preserved : goal.loop-i-preserved
loop-i-preserved c = paired-more _ _ _ _ _ c.loop-i.invariant c.requires c.loop-i-test.true _ c.rect-r.ensures _ c.apart_from-j.ensures c.if-j-sizes.false

pub returns : goal.returns
returns c = paired-end _ _ _ _ _ c.loop-i.invariant c.loop-i-test.false
