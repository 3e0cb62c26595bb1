-- `is_taken` asks for a number, then for `-`.
use Rattle.commands.proofs.Counts.{taken-number, taken_none, taken-dash}
use borrow.Author.Rules.{rules}
use Rattle.arguments_code.proofs.stops.is_taken.Goals as goal

pub returns-then-is_number : goal.returns-then-is_number
returns-then-is_number c = search (rules, taken-number)

pub returns-then-dash-eq1 : goal.returns-then-dash-eq1
returns-then-dash-eq1 c = search (rules, taken-dash)

pub returns-else-dash-eq1 : goal.returns-else-dash-eq1
returns-else-dash-eq1 c = search (rules, taken_none)
