-- `command_of` goes from command to command. The loop's invariant: the word is none of those before it.
use Rattle.commands.proofs.Arguments.{Sought}
use Rattle.arguments_code.proofs.arguments.command_of.Given as goal

abbrev pub invariant-loop-command : goal.invariant-loop-command
invariant-loop-command l = Sought l.word l.command-index
