use Rattle.commands.proofs.Places.{placed-more, placed-all}
use borrow.Author.Rules.{rules}
use Rattle.arguments_code.proofs.arguments.fill_places.Goals as goal

pub loop-i-preserved : goal.loop-i-preserved
loop-i-preserved c = search (rules, placed-more)

pub returns : goal.returns
returns c = search (rules, placed-all)
