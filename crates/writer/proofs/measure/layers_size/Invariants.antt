-- `layers_size` adds up line after line. The loop's invariant: what is left to be measured gives the whole.
use Rattle.text.proofs.Lengths.{Layering}
use Rattle.writer.proofs.measure.layers_size.Given as goal

abbrev pub invariant-loop-j : goal.invariant-loop-j
invariant-loop-j l = Layering l.sizes l.margins l.size l.j
