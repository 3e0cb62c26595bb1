-- `put_plan` puts the line of the shape's layers and rectangles.
use Rattle.checking.proofs.Check.{found-room, found-put}
use borrow.Author.Rules.{rules}
use Rattle.checking_code.proofs.put_plan.Goals as goal

pub put_found-requires : goal.put_found-requires
put_found-requires c = search (rules, found-room)

pub returns : goal.returns
returns c = search (rules, found-put)
