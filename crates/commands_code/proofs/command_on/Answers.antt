-- `command_on` tells what is wanted, or lets the command answer.
use Rattle.commands.proofs.Answers.{command-wanted, command-answer}
use borrow.Author.Rules.{rules}
use Rattle.commands_code.proofs.command_on.Goals as goal

pub returns-in-Some : goal.returns-in-Some
returns-in-Some c = search (rules, command-answer)

pub returns-in-None : goal.returns-in-None
returns-in-None c = search (rules, command-wanted)
