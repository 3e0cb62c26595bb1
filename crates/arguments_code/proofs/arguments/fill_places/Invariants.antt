-- `fill_places` goes from place to place. The loop's invariant: the first i stand in their cells.
use lib.ListN.{length}
use Rattle.commands.proofs.Places.{Placed}
use Rattle.arguments_code.proofs.arguments.fill_places.Given as goal

abbrev pub invariant-loop-i : goal.invariant-loop-i
invariant-loop-i l = Placed l.arguments (length l.initial.places) l.places l.i
