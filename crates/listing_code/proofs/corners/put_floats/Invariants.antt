-- `put_floats` stores float after float. The loop's invariant: those from i on are left.
use Rattle.listing.proofs.Floats.{Storing}
use Rattle.listing_code.proofs.corners.put_floats.Given as goal

abbrev pub invariant-loop-i : goal.invariant-loop-i
invariant-loop-i l = Storing l.t l.initial.corners l.n l.corners l.i
