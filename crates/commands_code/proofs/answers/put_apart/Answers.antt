-- `put_apart` reads seven places, and asks for the first n of them.
use Rattle.commands.proofs.Places.{places_count}
use Rattle.commands.proofs.Outcomes.{apart-first}
use borrow.Author.Rules.{rules}
use Rattle.commands_code.proofs.answers.put_apart.Goals as goal

pub slice_bounds-apart-end : goal.slice_bounds-apart-end
slice_bounds-apart-end c = search (rules, places_count)

pub returns : goal.returns
returns c = search (rules, apart-first)
