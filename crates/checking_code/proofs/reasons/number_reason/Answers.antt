-- `number_reason` tries one thing after the other.
use Rattle.checking.proofs.Told.{plus-told, point-told, zero-told, long-told, count-told}
use borrow.Author.Rules.{rules}
use Rattle.checking_code.proofs.reasons.number_reason.Goals as goal

pub returns-then-has : goal.returns-then-has
returns-then-has c = search (rules, plus-told)

pub returns-then-has-2 : goal.returns-then-has-2
returns-then-has-2 c = search (rules, point-told)

pub returns-then-leading_zero : goal.returns-then-leading_zero
returns-then-leading_zero c = search (rules, zero-told)

pub returns-then-long_number : goal.returns-then-long_number
returns-then-long_number c = search (rules, long-told)

pub returns : goal.returns
returns c = search (rules, count-told)
