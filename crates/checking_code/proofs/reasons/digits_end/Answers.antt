use Rattle.checking.proofs.Wording.{ending-found, ending-more, ending-none}
use borrow.Author.Rules.{rules}
use Rattle.checking_code.proofs.reasons.digits_end.Goals as goal

pub returns-then-not-is_digit : goal.returns-then-not-is_digit
returns-then-not-is_digit c = search (rules, ending-found)

pub loop-b-preserved : goal.loop-b-preserved
loop-b-preserved c = search (rules, ending-more)

pub returns : goal.returns
returns c = search (rules, ending-none)
