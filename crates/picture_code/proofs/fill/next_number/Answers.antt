-- `next_number` goes on behind a hole that took one.
use borrow.Author.Rules.{rules}
use Rattle.picture.proofs.Fills.{hole-later, none-later, other-later}
use Rattle.picture_code.proofs.fill.next_number.Goals as goal

pub returns-then-j-numbers : goal.returns-then-j-numbers
returns-then-j-numbers c = search (rules, hole-later)

pub returns-else-j-numbers : goal.returns-else-j-numbers
returns-else-j-numbers c = search (rules, none-later)

pub returns-else-b-eq64 : goal.returns-else-b-eq64
returns-else-b-eq64 c = search (rules, other-later)
