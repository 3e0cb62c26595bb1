-- `put_ground` marks what the row's ground tells; a row of the join always has one.
use Rattle.pens.proofs.Pens.{room-same, wrote-same}
use Rattle.printing.proofs.Rows.{not_none}
use Rattle.picture.proofs.Marks.{mark-told}
use borrow.Author.Rules.{rules}
use Rattle.picture_code.proofs.marks.put_ground.Goals as goal

pub put_mark-requires : goal.put_mark-requires
put_mark-requires c = search (rules, room-same, mark-told)

pub returns-in-None : goal.returns-in-None
returns-in-None c = search (rules, not_none)

pub returns-in-Some : goal.returns-in-Some
returns-in-Some c = search (rules, wrote-same, mark-told)
