-- `put_layers` writes layer after layer. The loop's invariant: those from j on are left.
use lib.ListN.{take}
use Rattle.picture.proofs.Layers.{Layered}
use Rattle.picture_code.proofs.layers.put_layers.Given as goal

abbrev pub invariant-loop-j : goal.invariant-loop-j
invariant-loop-j l = Layered l.frame (take l.k l.sizes) l.margins l.cells l.initial.pen l.pen l.start l.j
