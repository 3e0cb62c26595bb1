-- `put_wanted` puts the line of that number.
use Rattle.commands.proofs.Outcomes.{told-wanted}
use borrow.Author.Rules.{rules}
use Rattle.commands_code.proofs.answers.put_wanted.Goals as goal

pub returns : goal.returns
returns c = rw c.misused.ensures (search (rules, told-wanted))
