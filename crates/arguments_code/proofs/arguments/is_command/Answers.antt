-- `is_command` compares with the part of the commands' words.
use Rattle.commands.proofs.Arguments.{command-word}
use borrow.Author.Rules.{rules}
use Rattle.arguments_code.proofs.arguments.is_command.Goals as goal

pub returns : goal.returns
returns c = search (rules, command-word)
