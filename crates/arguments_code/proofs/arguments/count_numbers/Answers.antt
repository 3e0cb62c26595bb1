use Rattle.commands.proofs.Counts.{numbered_more, numbered-stop, numbered-all}
use borrow.Author.Rules.{rules}
use Rattle.arguments_code.proofs.arguments.count_numbers.Goals as goal

pub returns-then-not-takes_number : goal.returns-then-not-takes_number
returns-then-not-takes_number c = search (rules, numbered-stop)

pub loop-n-preserved : goal.loop-n-preserved
loop-n-preserved c = search (rules, numbered_more)

pub returns : goal.returns
returns c = search (rules, numbered-all)
