-- `put_version` puts the line.
use Rattle.commands.proofs.Outcomes.{version-done}
use borrow.Author.Rules.{rules}
use Rattle.commands_code.proofs.answers.put_version.Goals as goal

pub returns : goal.returns
returns c = rw c.done.ensures (search (rules, version-done))
