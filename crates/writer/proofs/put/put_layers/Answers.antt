use mathlib.Core.Path.{refl}
use native.Mathlib.Omega.{arith}
use Rattle.text.proofs.Layers.{layers-start, layers-end, layers-inside, layers-room, layers-more}
use Rattle.writer.proofs.put.put_layers.Goals as goal

pub loop-j-init : goal.loop-j-init
loop-j-init c = layers-start _ _ _ _ c.requires.sizes_len.0 c.requires.sizes_len.1 c.requires.room

pub layer_cells-part-requires : goal.layer_cells-part-requires
layer_cells-part-requires c = layers-inside _ _ _ _ _ _ c.loop-j.j c.loop-j.invariant (omega arith) _ refl _ refl

pub put_layer-requires : goal.put_layer-requires
put_layer-requires c = layers-room _ _ _ _ _ _ c.loop-j.j c.loop-j.invariant (omega arith) _ refl _ refl _ c.layer_cells-part.ensures

pub overflow_add-start : goal.overflow_add-start
overflow_add-start c = omega (arith, layers-inside _ _ _ _ _ _ c.loop-j.j c.loop-j.invariant (omega arith) _ refl _ refl)

pub loop-j-preserved : goal.loop-j-preserved
loop-j-preserved c = layers-more _ _ _ _ _ _ c.loop-j.j c.loop-j.invariant (omega arith) _ refl _ refl _ c.layer_cells-part.ensures _ c.put_layer.ensures

pub returns : goal.returns
returns c = layers-end _ _ _ _ _ _ c.loop-j.j (omega arith) c.loop-j.invariant
