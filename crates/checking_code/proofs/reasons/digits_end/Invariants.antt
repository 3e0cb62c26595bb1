-- `digits_end` goes byte by byte. The loop's invariant: the rest of the line decides.
use Rattle.checking.proofs.Wording.{Ending}
use Rattle.checking_code.proofs.reasons.digits_end.Given as goal

abbrev pub invariant-loop-b : goal.invariant-loop-b
invariant-loop-b l = Ending l.l l.b-index
