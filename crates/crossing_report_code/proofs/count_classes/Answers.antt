use Prim.Native.Nat.{◌<◌}
use native.Mathlib.Omega.{arith}
use Rattle.rows.proofs.TableRows.{row_inside}
use Rattle.crossing_report_code.proofs.Counting.{counting-none, counting-all, counting_more, row_is, class-fits, count_fits}
use Rattle.crossing_report_code.proofs.count_classes.Goals as goal

pub loop-init : goal.loop-init
loop-init c = counting-none _ _ _ _ c.requires.table_rows

pub row_at-requires : goal.row_at-requires
row_at-requires c = row_inside _ _ _ _ _ _ _ c.loop.invariant.ahead c.loop-test.true c.requires.table_rows

pub row_class-class-requires : goal.row_class-class-requires
row_class-class-requires c = record { three = c.requires.three; row_value = row_is _ _ _ _ _ _ _ c.loop.invariant c.loop-test.true _ c.row_at.ensures.0 }

pub bounds-counts-class : goal.bounds-counts-class
bounds-counts-class c =
    let class : c.row_class-class.result < 17 = class-fits _ _ _ _ _ _ _ c.loop.invariant c.loop-test.true _ c.row_at.ensures.0 _ c.row_class-class.ensures c.requires.three c.args.drawing.now.readable.framed.few in
    omega (arith, class)

pub overflow_add-counts : goal.overflow_add-counts
overflow_add-counts c =
    let class : c.row_class-class.result < 17 = class-fits _ _ _ _ _ _ _ c.loop.invariant c.loop-test.true _ c.row_at.ensures.0 _ c.row_class-class.ensures c.requires.three c.args.drawing.now.readable.framed.few in
    omega (arith, c.ranges.n, count_fits _ _ _ _ _ _ _ c.loop.invariant c.loop-test.true _ c.row_at.ensures.0 _ c.row_class-class.ensures class)

pub overflow_add-start : goal.overflow_add-start
overflow_add-start c = omega (arith, row_inside _ _ _ _ _ _ _ c.loop.invariant.ahead c.loop-test.true c.requires.table_rows)

pub loop-preserved : goal.loop-preserved
loop-preserved c =
    let class : c.row_class-class.result < 17 = class-fits _ _ _ _ _ _ _ c.loop.invariant c.loop-test.true _ c.row_at.ensures.0 _ c.row_class-class.ensures c.requires.three c.args.drawing.now.readable.framed.few in
    counting_more _ _ _ _ _ _ _ c.loop.invariant c.loop-test.true _ c.row_at.ensures.0 _ c.row_class-class.ensures class

pub returns : goal.returns
returns c = counting-all _ _ _ _ _ _ _ c.loop.invariant c.loop-test.false

pub bounds-counts-class-in-loop : goal.bounds-counts-class-in-loop
bounds-counts-class-in-loop c =
    class-fits _ _ _ _ _ _ _ c.loop.invariant c.loop-test.true _ c.row_at.ensures.0 _ c.row_class-class.ensures c.requires.three c.args.drawing.now.readable.framed.few
