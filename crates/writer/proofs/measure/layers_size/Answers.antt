-- `layers_size` adds up line after line.
use native.Mathlib.Omega.{arith}
use Rattle.text.proofs.Lengths.{layering-start, layering-few, layering-more, layering-end}
use Rattle.writer.proofs.measure.layers_size.Goals as goal

pub loop-j-init : goal.loop-j-init
loop-j-init c = layering-start _ _ c.requires.0

pub overflow_add-size : goal.overflow_add-size
overflow_add-size c = omega (arith, c.layer_line_size-size.ensures, c.requires.1, layering-few _ _ _ c.loop-j.j c.loop-j.invariant (omega arith))

pub loop-j-preserved : goal.loop-j-preserved
loop-j-preserved c = rw c.layer_line_size-size.ensures (layering-more _ _ _ c.loop-j.j c.loop-j.invariant (omega arith))

pub returns : goal.returns
returns c = layering-end _ _ _ c.loop-j.j (omega arith) c.loop-j.invariant
