-- `worded_reason` looks for a space, and then at the numbers.
use Rattle.checking.proofs.Told.{space-told, numbers-told}
use borrow.Author.Rules.{rules}
use Rattle.checking_code.proofs.reasons.worded_reason.Goals as goal

pub returns-then-has : goal.returns-then-has
returns-then-has c = search (rules, space-told)

pub returns : goal.returns
returns c = search (rules, numbers-told)
