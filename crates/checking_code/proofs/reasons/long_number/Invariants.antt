-- `long_number` goes byte by byte. The loop's invariant: the rest of the line, behind fewer than nine digits, decides.
use Rattle.checking.proofs.Reasons.{Running}
use Rattle.checking_code.proofs.reasons.long_number.Given as goal

abbrev pub invariant-loop-b : goal.invariant-loop-b
invariant-loop-b l = Running l.l l.run l.b-index
