use Rattle.checking.proofs.Reasons.{leading-found, leading-more, leading_end}
use borrow.Author.Rules.{rules}
use Rattle.checking_code.proofs.reasons.leading_zero.Goals as goal

pub returns-then-zero_leads : goal.returns-then-zero_leads
returns-then-zero_leads c = search (rules, leading-found)

pub loop-i-preserved : goal.loop-i-preserved
loop-i-preserved c = search (rules, leading-more)

pub returns : goal.returns
returns c = search (rules, leading_end)
