-- `run_on` counts a digit, and begins anew behind any other byte.
use Rattle.checking.proofs.Reasons.{run-longer, run-over}
use borrow.Author.Rules.{rules}
use Rattle.checking_code.proofs.reasons.run_on.Goals as goal

pub returns-then-is_digit : goal.returns-then-is_digit
returns-then-is_digit c = search (rules, run-longer)

pub returns : goal.returns
returns c = search (rules, run-over)
