-- `put_cause` puts the line of that number.
use Rattle.outcomes.proofs.Outcomes.{cause-put}
use borrow.Author.Rules.{rules}
use Rattle.outcomes_code.proofs.put_cause.Goals as goal

pub returns : goal.returns
returns c = search (rules, cause-put)
