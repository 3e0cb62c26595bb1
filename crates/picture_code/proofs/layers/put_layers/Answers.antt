use native.Mathlib.Omega.{arith}
use Rattle.picture.proofs.Layers.{none-layered, layer-inside, layer-short, layer-drawable, layer-room, layer-more, layers-end}
use Rattle.picture_code.proofs.layers.put_layers.Goals as goal

pub loop-j-init : goal.loop-j-init
loop-j-init c = none-layered _ _ _ _ _ c.requires.room

pub offset_bounds-sizes-j : goal.offset_bounds-sizes-j
offset_bounds-sizes-j c =
    let t = c.loop-j-test.true in
    let d = c.requires.small.1 in
    omega (arith, d.sized, d.few, t)

pub bounds-sizes-j : goal.bounds-sizes-j
bounds-sizes-j c =
    let t = c.loop-j-test.true in
    let d = c.requires.small.1 in
    omega (arith, d.sized, t)

pub overflow_cast-n : goal.overflow_cast-n
overflow_cast-n c =
    let t = c.loop-j-test.true in
    let d = c.requires.small.1 in
    omega (arith, layer-short _ _ _ _ _ _ c.loop-j.pen c.loop-j.start c.loop-j.j c.loop-j.invariant d t)

pub overflow_add-layer : goal.overflow_add-layer
overflow_add-layer c =
    let t = c.loop-j-test.true in
    let d = c.requires.small.1 in
    omega (arith, d.few, t)

pub offset_bounds-margins-j : goal.offset_bounds-margins-j
offset_bounds-margins-j c =
    let t = c.loop-j-test.true in
    let d = c.requires.small.1 in
    omega (arith, d.margined, d.few, t)

pub bounds-margins-j : goal.bounds-margins-j
bounds-margins-j c =
    let t = c.loop-j-test.true in
    let d = c.requires.small.1 in
    omega (arith, d.margined, t)

pub layer_cells-requires : goal.layer_cells-requires
layer_cells-requires c =
    let t = c.loop-j-test.true in
    let d = c.requires.small.1 in
    layer-inside _ _ _ _ _ _ c.loop-j.pen c.loop-j.start c.loop-j.j c.loop-j.invariant d t

pub put_layer-requires : goal.put_layer-requires
put_layer-requires c =
    let t = c.loop-j-test.true in
    let d = c.requires.small.1 in
    record {
      small = (c.requires.small.0, layer-drawable _ _ _ _ _ _ c.loop-j.pen c.loop-j.start c.loop-j.j c.loop-j.invariant d t _ c.layer_cells.ensures);
      room = layer-room _ _ _ _ _ _ c.loop-j.pen c.loop-j.start c.loop-j.j c.loop-j.invariant d t _ c.layer_cells.ensures;
    }

pub overflow_add-start : goal.overflow_add-start
overflow_add-start c =
    let t = c.loop-j-test.true in
    let d = c.requires.small.1 in
    omega (arith, layer-short _ _ _ _ _ _ c.loop-j.pen c.loop-j.start c.loop-j.j c.loop-j.invariant d t)

pub loop-j-preserved : goal.loop-j-preserved
loop-j-preserved c =
    let t = c.loop-j-test.true in
    let d = c.requires.small.1 in
    layer-more _ _ _ _ _ _ c.loop-j.pen c.loop-j.start c.loop-j.j c.loop-j.invariant d t _ c.layer_cells.ensures _ c.put_layer.ensures

pub returns : goal.returns
returns c = layers-end _ _ _ _ _ _ c.loop-j.pen c.loop-j.start c.loop-j.j c.loop-j.invariant c.requires.small.1 c.loop-j-test.false
