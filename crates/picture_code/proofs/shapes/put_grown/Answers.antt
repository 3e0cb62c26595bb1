-- `put_grown` fills one of two texts.
use Rattle.pens.proofs.Pens.{room-same, wrote-same}
use Rattle.picture.proofs.Shapes.{plain-is, grown-is}
use borrow.Author.Rules.{rules}
use Rattle.picture_code.proofs.shapes.put_grown.Goals as goal

pub put_filled-requires : goal.put_filled-requires
put_filled-requires c = search (rules, room-same, plain-is)

pub returns-then-margin-eq0 : goal.returns-then-margin-eq0
returns-then-margin-eq0 c = search (rules, wrote-same, plain-is)

pub put_filled-requires-2 : goal.put_filled-requires-2
put_filled-requires-2 c = search (rules, room-same, grown-is)

pub returns : goal.returns
returns c = search (rules, wrote-same, grown-is)
