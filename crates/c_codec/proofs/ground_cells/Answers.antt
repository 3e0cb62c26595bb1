-- `c_codec::ground_cells`: the sides are read back, and the letter is small.
use borrow.Author.Rules.{rules}
use Rattle.geometry.proofs.Machine.{Fitting}
use Rattle.c_cells.proofs.Cells.{ground-read}
use Rattle.c_codec.proofs.ground_cells.Goals as goal

pub returns : goal.returns
returns c =
    let fits-r : Fitting c.args.r = search rules in
    ground-read c.args.r c.args.kind _ fits-r c.letter-byte.ensures
