-- `put_counts` puts class after class. The loop's invariant: those from i on are left.
use Rattle.listing.proofs.Counts.{Uncounted}
use Rattle.listing_runs_code.proofs.class_lines.put_counts.Given as goal

abbrev pub invariant-loop-i : goal.invariant-loop-i
invariant-loop-i l = Uncounted l.initial.buf l.from l.counts l.buf l.at l.i
