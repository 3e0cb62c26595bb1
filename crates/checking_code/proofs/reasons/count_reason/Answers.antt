-- `count_reason` asks for one number, and for the line end.
use Rattle.checking.proofs.Told.{one_told, line-told, no-end-told}
use borrow.Author.Rules.{rules}
use Rattle.checking_code.proofs.reasons.count_reason.Goals as goal

pub returns-then-one_number : goal.returns-then-one_number
returns-then-one_number c = search (rules, one_told)

pub returns-then-has : goal.returns-then-has
returns-then-has c = search (rules, line-told)

pub returns : goal.returns
returns c = search (rules, no-end-told)
