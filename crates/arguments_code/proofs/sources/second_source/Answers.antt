-- `second_source` asks whether the call fits, and whether the command must have a name.
use Rattle.commands.proofs.Calls.{second-misused, second_none, second-some}
use borrow.Author.Rules.{rules}
use Rattle.arguments_code.proofs.sources.second_source.Goals as goal

pub returns-in_default : goal.returns-in_default
returns-in_default c = search (rules, second-misused)

pub returns-then-limit_of-eq0 : goal.returns-then-limit_of-eq0
returns-then-limit_of-eq0 c = search (rules, second_none)

pub returns : goal.returns
returns c = search (rules, second-some)
