use Prim.Native.Nat.{◌+◌, ◌*◌, ◌≤◌}
use native.Mathlib.Omega.{arith}
use lib.ListN.{length}
use Rattle.rows_code.specs.Reading.{widened}
use Rattle.crossings.proofs.Classes.{seeking-none, seeking-more, seeking-found, seeking-all, found-small}
use Rattle.crossings.proofs.Reading.{row-shares, rects-long}
use Rattle.crossings_code.proofs.row_class.Goals as goal

pub rect_in-h-requires : goal.rect_in-h-requires
rect_in-h-requires c = record { j_in_bounds = omega (arith, c.requires.three); row_value = c.requires.row_value }

pub rect_in-v-requires : goal.rect_in-v-requires
rect_in-v-requires c = record { j_in_bounds = omega (arith, c.requires.three); row_value = c.requires.row_value }

pub loop-j-init : goal.loop-j-init
loop-j-init c =
    let d = c.args.drawing.now in
    let cells = widened d.sizes.now d.margins.now d.cells.now in
    seeking-none _ _ _ (length d.sizes.now) (row-shares d.sizes.now cells c.args.row.now c.requires.row_value c.requires.three)
    (rects-long d.sizes.now cells c.args.row.now c.requires.row_value) c.rect_in-h.ensures c.rect_in-v.ensures

pub rect_in-requires : goal.rect_in-requires
rect_in-requires c = record { j_in_bounds = omega (arith, c.loop-j-test.true); row_value = c.requires.row_value }

pub returns-then-e-ne0 : goal.returns-then-e-ne0
returns-then-e-ne0 c = seeking-found _ _ _ _ _ c.loop-j.invariant c.loop-j-test.true _ c.rect_in.ensures _ c.end_in-e.ensures c.if-e-ne0.true

pub loop-j-preserved : goal.loop-j-preserved
loop-j-preserved c = seeking-more _ _ _ _ _ c.loop-j.invariant c.loop-j-test.true _ c.rect_in.ensures _ c.end_in-e.ensures c.if-e-ne0.false

pub returns : goal.returns
returns c = seeking-all _ _ _ _ _ c.loop-j.invariant c.loop-j-test.false

pub overflow_add-result : goal.overflow_add-result
overflow_add-result c =
    let d = c.args.drawing.now in
    let cells = widened d.sizes.now d.margins.now d.cells.now in
    let small : 4 * c.loop-j.j + c.end_in-e.result ≤ 16 = found-small _ _ _ _ _ c.loop-j.invariant c.loop-j-test.true _ c.rect_in.ensures _ c.end_in-e.ensures
    (omega (arith, rects-long d.sizes.now cells c.args.row.now c.requires.row_value, d.readable.framed.few)) in
    omega (arith, small)
