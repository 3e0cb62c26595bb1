use Rattle.checking.proofs.Reasons.{running-found, running_more, running-end}
use borrow.Author.Rules.{rules}
use Rattle.checking_code.proofs.reasons.long_number.Goals as goal

pub returns-then-run-ge9 : goal.returns-then-run-ge9
returns-then-run-ge9 c = search (rules, running-found)

pub loop-b-preserved : goal.loop-b-preserved
loop-b-preserved c = search (rules, running_more)

pub returns : goal.returns
returns c = search (rules, running-end)
