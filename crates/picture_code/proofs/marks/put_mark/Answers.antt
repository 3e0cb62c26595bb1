-- `put_mark` fills the text of the kind.
use Rattle.pens.proofs.Pens.{room-same, wrote-same}
use Rattle.picture.proofs.Marks.{mark-ground, mark-edge, mark-point}
use borrow.Author.Rules.{rules}
use Rattle.picture_code.proofs.marks.put_mark.Goals as goal

pub put_filled-requires : goal.put_filled-requires
put_filled-requires c = search (rules, room-same, mark-ground)

pub put_filled-requires-in-Edge : goal.put_filled-requires-in-Edge
put_filled-requires-in-Edge c = search (rules, room-same, mark-edge)

pub put_filled-requires-in-Point : goal.put_filled-requires-in-Point
put_filled-requires-in-Point c = search (rules, room-same, mark-point)

pub returns-in-Ground : goal.returns-in-Ground
returns-in-Ground c = search (rules, wrote-same, mark-ground)

pub returns-in-Edge : goal.returns-in-Edge
returns-in-Edge c = search (rules, wrote-same, mark-edge)

pub returns-in-Point : goal.returns-in-Point
returns-in-Point c = search (rules, wrote-same, mark-point)
