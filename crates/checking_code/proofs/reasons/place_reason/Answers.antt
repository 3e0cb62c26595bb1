-- `place_reason` has one reason for the first line, and one for the others.
use Rattle.checking.proofs.Told.{no-plan-told, second-plan-told}
use borrow.Author.Rules.{rules}
use Rattle.checking_code.proofs.reasons.place_reason.Goals as goal

pub returns-then-first : goal.returns-then-first
returns-then-first c = search (rules, no-plan-told)

pub returns : goal.returns
returns c = search (rules, second-plan-told)
