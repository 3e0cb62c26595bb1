-- `surplus_reason` asks whether there was a LAYER line.
use Rattle.checking.proofs.Faults.{surplus-before, surplus-more}
use borrow.Author.Rules.{rules}
use Rattle.checking_code.proofs.notes.surplus_reason.Goals as goal

pub returns-then-c-eq0 : goal.returns-then-c-eq0
returns-then-c-eq0 c = search (rules, surplus-before)

pub returns : goal.returns
returns c = search (rules, surplus-more)
