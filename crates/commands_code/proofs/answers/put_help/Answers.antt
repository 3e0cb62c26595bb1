-- `put_help` puts what is wanted, or the text of that number.
use Rattle.commands.proofs.Outcomes.{help-unknown, help-done}
use borrow.Author.Rules.{rules}
use Rattle.commands_code.proofs.answers.put_help.Goals as goal

pub returns-then-is_unknown : goal.returns-then-is_unknown
returns-then-is_unknown c = search (rules, help-unknown)

pub returns : goal.returns
returns c = rw c.done.ensures (search (rules, help-done))
