-- `put_over` has the frame of the grown ground.
use Rattle.printing.proofs.Puts.{put_same}
use Rattle.picture.proofs.Runs.{room-same, over-is, plan-drawable, grown-whole}
use borrow.Author.Rules.{rules}
use Rattle.picture_code.proofs.drawing.put_over.Goals as goal

pub ground_of-requires : goal.ground_of-requires
ground_of-requires c = search (rules, grown-whole)

pub put_picture-requires : goal.put_picture-requires
put_picture-requires c =
    record {
      small = search (rules, plan-drawable, room-same, over-is);
      table_rows = search (rules, plan-drawable, room-same, over-is);
      fits_at = search (rules, plan-drawable, room-same, over-is);
    }

pub returns : goal.returns
returns c = search (rules, put_same, over-is)
