-- `put_layers` writes layer after layer. The loop's invariant: the layers from j on are left to be written.
use Rattle.text.proofs.Layers.{Layers}
use Rattle.writer.proofs.put.put_layers.Given as goal

abbrev pub invariant-loop-j : goal.invariant-loop-j
invariant-loop-j l = Layers l.initial.pen l.sizes l.margins l.cells l.pen l.start l.j
