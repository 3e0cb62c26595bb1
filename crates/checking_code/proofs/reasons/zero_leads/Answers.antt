-- `zero_leads` asks of the byte, of the one before it, and of the one behind it.
use Rattle.checking.proofs.Reasons.{no_zero, minus_zero, inner-zero, first-zero}
use borrow.Author.Rules.{rules}
use Rattle.checking_code.proofs.reasons.zero_leads.Goals as goal

pub returns-then-before-eq45 : goal.returns-then-before-eq45
returns-then-before-eq45 c = search (rules, minus_zero)

pub returns-then-before-eq9 : goal.returns-then-before-eq9
returns-then-before-eq9 c = search (rules, first-zero)

pub returns-else-before-eq9 : goal.returns-else-before-eq9
returns-else-before-eq9 c = search (rules, inner-zero)

pub returns-else-l-i-eq48 : goal.returns-else-l-i-eq48
returns-else-l-i-eq48 c = search (rules, no_zero)
