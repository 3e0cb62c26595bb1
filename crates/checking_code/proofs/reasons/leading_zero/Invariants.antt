-- `leading_zero` goes byte by byte. The loop's invariant: the rest of the line, behind the byte before it, decides.
use Rattle.checking.proofs.Reasons.{Leading}
use Rattle.checking_code.proofs.reasons.leading_zero.Given as goal

abbrev pub invariant-loop-i : goal.invariant-loop-i
invariant-loop-i l = Leading l.l l.before l.i
