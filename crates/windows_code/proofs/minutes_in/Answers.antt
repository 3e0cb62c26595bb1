use native.Mathlib.Omega.{arith}
use Rattle.rows.proofs.RowCall.{fits-long}
use Rattle.rows.proofs.Layers.{sum-next}
use Rattle.windows.proofs.Rowwise.{first-there, sharing-first, next-there, sharing-more, sharing-end}
use Rattle.windows_code.proofs.minutes_in.Goals as goal

pub bounds-row-0 : goal.bounds-row-0
bounds-row-0 c = omega (arith, fits-long c.args.sizes.now c.args.row.now c.requires.row_value, c.requires.in_bounds)

pub overflow_cast-row : goal.overflow_cast-row
overflow_cast-row c = omega (arith, c.shared_slice_known-4-1.given 0)

pub window_at-w-requires : goal.window_at-w-requires
window_at-w-requires c = omega (arith, first-there c.args.sizes.now c.args.row.now c.requires.in_bounds c.requires.row_value, c.requires.sizes_in_bounds)

pub overflow_cast-start : goal.overflow_cast-start
overflow_cast-start c = omega (arith, c.shared_slice_known-5-1.given 0)

pub loop-j-init : goal.loop-j-init
loop-j-init c = sharing-first _ _ _ c.requires.in_bounds c.requires.row_value _ c.window_at-w.ensures

pub bounds-row-j : goal.bounds-row-j
bounds-row-j c = omega (arith, fits-long c.args.sizes.now c.args.row.now c.requires.row_value)

pub overflow_cast-row-in-loop-j : goal.overflow_cast-row-in-loop-j
overflow_cast-row-in-loop-j c = omega (arith, c.shared_slice_known-in-loop-j-1.given c.loop-j.j)

pub overflow_add-start : goal.overflow_add-start
overflow_add-start c = omega (arith, next-there _ _ _ _ _ _ c.loop-j.invariant c.requires.row_value c.loop-j-test.true, c.requires.sizes_in_bounds)

pub window_at-requires : goal.window_at-requires
window_at-requires c = omega (arith, next-there _ _ _ _ _ _ c.loop-j.invariant c.requires.row_value c.loop-j-test.true, c.requires.sizes_in_bounds)

pub overflow_cast-start-in-loop-j : goal.overflow_cast-start-in-loop-j
overflow_cast-start-in-loop-j c = omega (arith, c.shared_slice_known-in-loop-j-2-1.given c.loop-j.j)

pub overflow_add-start-in-loop-j : goal.overflow_add-start-in-loop-j
overflow_add-start-in-loop-j c = omega (arith, sum-next _ _ _ c.loop-j.invariant.reached c.loop-j-test.true, c.requires.sizes_in_bounds)

pub loop-j-preserved : goal.loop-j-preserved
loop-j-preserved c = sharing-more _ _ _ _ _ _ c.loop-j.invariant c.requires.row_value c.loop-j-test.true _ _ c.window_at.ensures c.both_of-w.ensures

pub returns : goal.returns
returns c = sharing-end _ _ _ _ _ _ c.loop-j.invariant c.loop-j-test.false
