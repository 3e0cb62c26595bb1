-- `nearest_code::nearest_at`: a layer past the last is empty; the cells of one that is there are a part of the plan's.
use mathlib.Core.Path.{sym}
use Prim.Native.Nat.{◌≤◌, ◌<◌}
use native.Mathlib.Omega.{arith}
use lib.ListN.{length}
use lib.Seq.{length-take-le}
use Rattle.nearest.proofs.Answers.{near-past, layer-reads, layer-part, near-layer}
use Rattle.nearest_code.proofs.nearest_at.Goals as goal

pub returns-then-j-sizes : goal.returns-then-j-sizes
returns-then-j-sizes c = near-past _ c.args.sizes.now c.args.cells.now _ c.if-j-sizes.true

pub slice_bounds-sum_of-end : goal.slice_bounds-sum_of-end
slice_bounds-sum_of-end c =
    let there : c.args.j < length c.args.sizes.now = c.if-j-sizes.false in
    sym (length-take-le _ _ (omega (arith, there)))

pub sum_of-start-requires : goal.sum_of-start-requires
sum_of-start-requires c =
    let there : c.args.j < length c.args.sizes.now = c.if-j-sizes.false in
    let e : c.args.j ≤ length c.args.sizes.now = omega (arith, there) in omega (arith, length-take-le c.args.j c.args.sizes.now e, c.requires.framed.few)

pub overflow_cast-size : goal.overflow_cast-size
overflow_cast-size c = omega (arith, c.shared_slice_known-2-1.given c.args.j)

pub layer_cells-requires : goal.layer_cells-requires
layer_cells-requires c =
    let there : c.args.j < length c.args.sizes.now = c.if-j-sizes.false in
    omega (arith, c.sum_of-start.ensures, layer-reads c.args.sizes.now c.args.cells.now c.args.j c.requires.framed there)

pub nearest_among-requires : goal.nearest_among-requires
nearest_among-requires c =
    let there : c.args.j < length c.args.sizes.now = c.if-j-sizes.false in
    record {
      part = layer-part c.args.sizes.now c.args.cells.now c.args.j c.requires.framed there _ _ c.sum_of-start.ensures c.layer_cells.ensures;
      around_value = c.requires.around_value;
    }

pub returns : goal.returns
returns c =
    let there : c.args.j < length c.args.sizes.now = c.if-j-sizes.false in
    near-layer c.args.sizes.now c.args.cells.now c.args.j c.requires.framed there _ _ c.sum_of-start.ensures c.layer_cells.ensures _ _ c.nearest_among.ensures
