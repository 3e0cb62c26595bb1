use Rattle.picture.proofs.Fills.{none_filled, next-piece-room, next-filled, all-filled}
use borrow.Author.Rules.{rules}
use Rattle.picture_code.proofs.fill.put_filled.Goals as goal

pub loop-b-init : goal.loop-b-init
loop-b-init c = none_filled _ _ _ c.requires

pub put_piece-requires : goal.put_piece-requires
put_piece-requires c = search (rules, next-piece-room)

pub loop-b-preserved : goal.loop-b-preserved
loop-b-preserved c = search (rules, next-filled)

pub returns : goal.returns
returns c = search (rules, all-filled)
