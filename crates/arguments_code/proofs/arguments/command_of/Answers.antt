use Rattle.commands.proofs.Arguments.{sought-more, sought-here, sought-all}
use borrow.Author.Rules.{rules}
use Rattle.arguments_code.proofs.arguments.command_of.Goals as goal

pub returns-then-is_command : goal.returns-then-is_command
returns-then-is_command c = search (rules, sought-here)

pub loop-command-preserved : goal.loop-command-preserved
loop-command-preserved c = search (rules, sought-more)

pub returns : goal.returns
returns c = search (rules, sought-all)
