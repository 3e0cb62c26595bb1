-- `put_misuse` puts the words, and nothing on standard output.
use Rattle.outcomes.proofs.Outcomes.{told-misused}
use borrow.Author.Rules.{rules}
use Rattle.outcomes_code.proofs.put_misuse.Goals as goal

pub returns : goal.returns
returns c = rw c.misused.ensures (search (rules, told-misused))
