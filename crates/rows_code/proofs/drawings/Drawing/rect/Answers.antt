-- `Drawing::rect`: the row's rectangle in one layer is that of the widened cells.
use native.Mathlib.Omega.{arith}
use Rattle.rows.proofs.RowCall.{fits-long}
use Rattle.rows_code.proofs.Reading.{row-widened, row-widens}
use Rattle.rows_code.proofs.drawings.Drawing.rect.Goals as goal

pub bounds-row-j : goal.bounds-row-j
bounds-row-j c = omega (arith, fits-long c.args.self.now.sizes.now c.args.row.now c.requires.row_value, c.requires.reached.1)

pub grown_in-requires : goal.grown_in-requires
grown_in-requires c = row-widens _ _ _ _ _ c.requires.reached.0 c.requires.reached.1 _ c.requires.row_value c.args.self.now.readable

pub returns : goal.returns
returns c =
    row-widened c.args.self.now.sizes.now c.args.self.now.margins.now c.args.self.now.cells.now _ _ c.requires.reached.0 c.requires.reached.1 _ c.requires.row_value _ c.grown_in.ensures
