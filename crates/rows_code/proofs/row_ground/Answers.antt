-- `rows_code::row_ground`: no rectangle is grown again.
use lib.ListN.{take}
use Rattle.rows_code.proofs.Reading.{readable-none, ground-widened}
use Rattle.rows_code.proofs.row_ground.Goals as goal

pub invariant_of-drawing : goal.invariant_of-drawing
invariant_of-drawing c = record { readable = readable-none _ _ c.requires.1 }

pub returns : goal.returns
returns c = ground-widened (take c.args.k c.args.sizes.now) c.args.cells.now _ _ c.ground_in.ensures
