-- `given_stops` adds the four weights.
use Rattle.commands.proofs.Counts.{given_is}
use borrow.Author.Rules.{rules}
use Rattle.arguments_code.proofs.stops.given_stops.Goals as goal

pub returns : goal.returns
returns c = search (rules, given_is)
